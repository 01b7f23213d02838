-- The line of a split.
use Rattle.std.specs.Prelude.{pos, List, [], ◌∷◌}
use Rattle.d_box.specs.declared.space.Split.{Split}
use Rattle.d_box.specs.declared.space.Split.TheVariants.{Total, Peak}
use Rattle.d_certline.specs.Lines.{Line}
use Rattle.d_certline.specs.Lines as line

-- the line of a split
abbrev pub cut_line : Split → List Line
cut_line (Total index at) = line.total (pos index) at ∷ []
cut_line (Peak group at) = line.peak (pos group) at ∷ []
