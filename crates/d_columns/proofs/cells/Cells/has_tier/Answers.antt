use Rattle.std.proofs.Common.{Bool, ◌∙◌, sym, ap}
use Rattle.std.specs.Option.{is_some}
use Rattle.d_columns.specs.declared.names.Part.{Part}
use Rattle.d_columns.specs.Tiers.{has_tier, part_cell, is_filled, parts}
use Rattle.d_columns.specs.Shown.{row_of}
use Rattle.d_columns.proofs.TierParts.{any_found}
use Rattle.d_columns.proofs.cells.Cells.has_tier.Goals as goal

pub returns : goal.returns
unfolding has_tier
returns c =
    let test : Part → Bool = λ part. is_filled (part_cell (row_of c.args.self.now) c.args.structure c.args.period c.args.tier part) in
    c.is_some.ensures ∙ ap is_some c.first_part.ensures ∙ sym (any_found test parts)
