use Rattle.std.specs.Int.{w64, w128}
use Rattle.std.proofs.lemmas.Int.{to_z_pos, to_z-of_z}
use Rattle.std.proofs.Common.{rules, pos, refl, ◌∙◌}
use Rattle.d_certline.specs.Lines as line
use Rattle.d_cert.proofs.TreeFacts.{cut_text, two_parts}
use Rattle.d_cert.proofs.tree.save_split.Goals as goal

pub returns-in-Total-clause-told : goal.returns-in-Total-clause-told
unfolding line.word line.parts
returns-in-Total-clause-told g c = λ t.
    cut_text c.args.split _ _ _ c.save_numbers.result c.in-Total.is (c.save_numbers.ensures.told (line.total (pos c.in-Total.index) c.in-Total.at) refl
    (two_parts _ _ _ _ (to_z_pos w128 c.in-Total.index (search rules)) (to_z-of_z w128 _ (search rules) ∙ to_z-of_z w64 c.in-Total.at (search rules))) t)

pub returns-in-Peak-clause-told : goal.returns-in-Peak-clause-told
unfolding line.word line.parts
returns-in-Peak-clause-told g c = λ t.
    cut_text c.args.split _ _ _ c.save_numbers-in-Peak.result c.in-Peak.is (c.save_numbers-in-Peak.ensures.told (line.peak (pos c.in-Peak.group) c.in-Peak.at) refl
    (two_parts _ _ _ _ (to_z_pos w128 c.in-Peak.group (search rules)) (to_z-of_z w128 _ (search rules) ∙ to_z-of_z w64 c.in-Peak.at (search rules))) t)
