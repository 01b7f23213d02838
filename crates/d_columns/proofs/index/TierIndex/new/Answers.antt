use Rattle.std.proofs.Common.{◌≡◌, ◌∙◌, ℕ, None, Option, replicate, ap, get_or, rules}
use Rattle.d_columns.specs.Tiers.{data_row}
use Rattle.d_columns.proofs.IndexFacts.{index_none, all_same}
use Rattle.d_columns.proofs.index.TierIndex.new.Goals as goal

pub loop-column-init : goal.loop-column-init
loop-column-init c =
    let none : Option ℕ = None in
    let items : c.in_ok-vec.field-0.items ≡ replicate 11520 none = c.in_ok-vec.ensures.items_if_clones_equal (search rules) in
    index_none (data_row c.args.table.now c.args.row) _ (λ place. ap (λ items. get_or items place none) items ∙ all_same 11520 place none)
