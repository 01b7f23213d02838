use Rattle.std.proofs.Common.{◌-◌, sym, ◌∙◌}
use Rattle.d_columns.specs.Shown.{row_of}
use Rattle.d_columns.specs.Tiers.{has_tier, is_hole}
use Rattle.d_columns.proofs.HoleFacts.{inner_of, there_is, not_there}
use Rattle.d_columns.proofs.cells.Cells.is_hole.Goals as goal

pub returns-then-has_tier : goal.returns-then-has_tier
returns-then-has_tier c =
    there_is (has_tier (row_of c.args.self.now) c.args.structure c.args.period c.args.tier) (has_tier (row_of c.args.self.now) c.args.structure c.args.period (c.args.tier - 1)) c.has_tier-before.result (is_hole (row_of c.args.self.now) c.args.structure c.args.period c.args.tier)
    (inner_of (row_of c.args.self.now) c.args.structure c.args.period c.args.tier c.requires.tier.0 c.requires.tier.1) (sym c.has_tier.ensures ∙ c.if-has_tier.true) c.has_tier-before.ensures

pub returns-else-has_tier : goal.returns-else-has_tier
returns-else-has_tier c =
    c.has_tier.ensures ∙ not_there (has_tier (row_of c.args.self.now) c.args.structure c.args.period c.args.tier) (has_tier (row_of c.args.self.now) c.args.structure c.args.period (c.args.tier - 1)) (is_hole (row_of c.args.self.now) c.args.structure c.args.period c.args.tier)
    (inner_of (row_of c.args.self.now) c.args.structure c.args.period c.args.tier c.requires.tier.0 c.requires.tier.1) (sym c.has_tier.ensures ∙ c.if-has_tier.false)
