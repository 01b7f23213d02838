use Rattle.std.proofs.Common.{codes}
use Rattle.std.proofs.lemmas.Result.{on_ok_weaker}
use Rattle.d_tariff.specs.Shown.{terms_of}
use Rattle.d_report.specs.Tariffs.{numbers_line}
use Rattle.d_report.proofs.LineFacts.{four_parts}
use Rattle.d_report.proofs.hours.put_months.Goals as goal

pub returns : goal.returns
returns c =
    let t = terms_of c.args.tariff.now in
    on_ok_weaker c.put_fractions.result
    (four_parts c.args.text.now.items c.put_word.new.text.items c.put_numbers.new.text.items c.put_word-2.new.text.items c.put_fractions.new.text.items
    (codes "flat months") (numbers_line t.flat_months) (codes "ratchet") (numbers_line t.ratchet)
    c.in_ok-put_word.ensures c.in_ok-put_numbers.ensures c.in_ok-put_word-2.ensures)
    c.put_fractions.ensures
