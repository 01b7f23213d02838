use Rattle.std.proofs.Common.{◌≡◌, ◌∙◌, false, length, rules}
use Rattle.d_text.specs.Brackets.{is_blank, role_of}
use Rattle.d_text.specs.declared.brackets.Stage.TheVariants.{Closed}
use Rattle.d_text.proofs.ScanFacts.{open-goes, open-stops, close-is, closed_stage, closed_count}
use Rattle.d_text.proofs.grid.GridScan.step.Goals as goal

pub returns-else-is_blank-clause-goes : goal.returns-else-is_blank-clause-goes
returns-else-is_blank-clause-goes c = λ place e.
    let blank : is_blank (role_of c.args.byte) ≡ false = search rules in
    open-goes c.args.self.now c.enter.new.self place c.args.byte c.in-Open.is blank (c.enter.ensures.goes place e) (c.enter.ensures.read e)

pub returns-else-is_blank-clause-stops : goal.returns-else-is_blank-clause-stops
returns-else-is_blank-clause-stops c = λ place e.
    let blank : is_blank (role_of c.args.byte) ≡ false = search rules in
    open-stops c.args.self.now place c.args.byte c.in-Open.is blank (c.enter.ensures.stops place e)

pub returns-then-is_closed-clause-goes : goal.returns-then-is_closed-clause-goes
returns-then-is_closed-clause-goes c = λ place e.
    let closed : c.args.self.now.row.stage ≡ Closed = closed_stage c.args.self.now.row.stage (search rules) in
    let size : length c.args.self.now.row.numbers ≡ 24 = search rules in
    let role : c.role_of-role.result ≡ role_of c.args.byte = c.role_of-role.ensures in
    close-is c.args.self.now place c.args.byte c.in-Part.is closed (closed_count 24 c.args.self.now.row.count c.args.self.now.row.stage closed c.requires.room.row.fits) size
    ∙ rw role at (c.end.ensures.goes e)
