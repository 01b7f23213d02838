use Rattle.std.proofs.Common.{Bool, [], ◌∷◌, None, Some, refl, sym, ◌∙◌}
use Rattle.d_columns.specs.declared.names.Part.{Part}
use Rattle.d_columns.specs.declared.names.Part.TheVariants.{Max, Unit, Rate, Adj, Sell}
use Rattle.d_columns.specs.Tiers.{part_cell, is_filled}
use Rattle.d_columns.specs.Shown.{row_of}
use Rattle.d_columns.proofs.TierParts.{found_1, found_later}
use Rattle.d_columns.proofs.cells.Cells.first_part.Goals as goal

pub returns-then-is_filled : goal.returns-then-is_filled
returns-then-is_filled c =
    let test : Part → Bool = λ part. is_filled (part_cell (row_of c.args.self.now) c.args.structure c.args.period c.args.tier part) in
    found_1 test Max (Unit ∷ Rate ∷ Adj ∷ Sell ∷ []) (sym c.is_filled.ensures ∙ c.if-is_filled.true)

pub returns-then-is_filled-2 : goal.returns-then-is_filled-2
returns-then-is_filled-2 c =
    let test : Part → Bool = λ part. is_filled (part_cell (row_of c.args.self.now) c.args.structure c.args.period c.args.tier part) in
    found_later test Max (Unit ∷ Rate ∷ Adj ∷ Sell ∷ []) (Some Unit) (sym c.is_filled.ensures ∙ c.if-is_filled.false) (found_1 test Unit (Rate ∷ Adj ∷ Sell ∷ []) (sym c.is_filled-2.ensures ∙ c.if-is_filled-2.true))

pub returns-then-is_filled-3 : goal.returns-then-is_filled-3
returns-then-is_filled-3 c =
    let test : Part → Bool = λ part. is_filled (part_cell (row_of c.args.self.now) c.args.structure c.args.period c.args.tier part) in
    found_later test Max (Unit ∷ Rate ∷ Adj ∷ Sell ∷ []) (Some Rate) (sym c.is_filled.ensures ∙ c.if-is_filled.false) (found_later test Unit (Rate ∷ Adj ∷ Sell ∷ []) (Some Rate) (sym c.is_filled-2.ensures ∙ c.if-is_filled-2.false) (found_1 test Rate (Adj ∷ Sell ∷ []) (sym c.is_filled-3.ensures ∙ c.if-is_filled-3.true)))

pub returns-then-is_filled-4 : goal.returns-then-is_filled-4
returns-then-is_filled-4 c =
    let test : Part → Bool = λ part. is_filled (part_cell (row_of c.args.self.now) c.args.structure c.args.period c.args.tier part) in
    found_later test Max (Unit ∷ Rate ∷ Adj ∷ Sell ∷ []) (Some Adj) (sym c.is_filled.ensures ∙ c.if-is_filled.false) (found_later test Unit (Rate ∷ Adj ∷ Sell ∷ []) (Some Adj) (sym c.is_filled-2.ensures ∙ c.if-is_filled-2.false) (found_later test Rate (Adj ∷ Sell ∷ []) (Some Adj) (sym c.is_filled-3.ensures ∙ c.if-is_filled-3.false) (found_1 test Adj (Sell ∷ []) (sym c.is_filled-4.ensures ∙ c.if-is_filled-4.true))))

pub returns-then-is_filled-5 : goal.returns-then-is_filled-5
returns-then-is_filled-5 c =
    let test : Part → Bool = λ part. is_filled (part_cell (row_of c.args.self.now) c.args.structure c.args.period c.args.tier part) in
    found_later test Max (Unit ∷ Rate ∷ Adj ∷ Sell ∷ []) (Some Sell) (sym c.is_filled.ensures ∙ c.if-is_filled.false) (found_later test Unit (Rate ∷ Adj ∷ Sell ∷ []) (Some Sell) (sym c.is_filled-2.ensures ∙ c.if-is_filled-2.false) (found_later test Rate (Adj ∷ Sell ∷ []) (Some Sell) (sym c.is_filled-3.ensures ∙ c.if-is_filled-3.false) (found_later test Adj (Sell ∷ []) (Some Sell) (sym c.is_filled-4.ensures ∙ c.if-is_filled-4.false) (found_1 test Sell ([]) (sym c.is_filled-5.ensures ∙ c.if-is_filled-5.true)))))

pub returns : goal.returns
returns c =
    let test : Part → Bool = λ part. is_filled (part_cell (row_of c.args.self.now) c.args.structure c.args.period c.args.tier part) in
    found_later test Max (Unit ∷ Rate ∷ Adj ∷ Sell ∷ []) None (sym c.is_filled.ensures ∙ c.if-is_filled.false) (found_later test Unit (Rate ∷ Adj ∷ Sell ∷ []) None (sym c.is_filled-2.ensures ∙ c.if-is_filled-2.false) (found_later test Rate (Adj ∷ Sell ∷ []) None (sym c.is_filled-3.ensures ∙ c.if-is_filled-3.false) (found_later test Adj (Sell ∷ []) None (sym c.is_filled-4.ensures ∙ c.if-is_filled-4.false) (found_later test Sell ([]) None (sym c.is_filled-5.ensures ∙ c.if-is_filled-5.false) (refl)))))
