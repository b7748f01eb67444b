-- Lists of labels as plain data.
use Rattle.std.specs.Prelude.{ℕ, List, map}
use Rattle.grift_base.specs.declared.places.LabelId.{LabelId}

abbrev pub labels_of : List LabelId → List ℕ
labels_of labels = map (λ label. label.0) labels
