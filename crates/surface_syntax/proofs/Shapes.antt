-- What lists of s-expressions hold, element by element.
use Rattle.std.proofs.Common.{◌≡◌, ap}
use Rattle.grift_base.specs.declared.places.Pos.{Pos}
use Rattle.sexpr_reader.specs.declared.sexps.SexpNode.{SexpNode}
use Rattle.sexpr_reader.specs.declared.sexps.SexpList.{SexpList}
use Rattle.sexpr_reader.specs.declared.sexps.SexpList.TheVariants.{Cons'}
use Rattle.sexpr_reader.specs.View.{datum_at, datums_of}
use Rattle.form_table.specs.Marked.{◌▹◌, marked, all_marked}

pub one_first : {a b : _} {p : Pos} {node : SexpNode} (ds : SexpList) {rest : SexpList}
    → ds ≡ Cons' a p node b rest
    → all_marked (datums_of ds) ≡ marked (datum_at p node) ▹ all_marked (datums_of rest)
one_first ds e = ap (λ ds. all_marked (datums_of ds)) e
