-- S-expressions as plain data: what their boxes hold, and not where.
use Rattle.grift_base.specs.declared.places.Pos.{Pos}
use Rattle.sexpr_reader.specs.Datum.{integer, truth, symbol, Datum, leaf_datum, list_datum, Datums, no_datums}
use Rattle.sexpr_reader.specs.Datum.{datum_then}
use Rattle.sexpr_reader.specs.declared.sexps.Sexp.{Sexp, out-Sexp}
use Rattle.sexpr_reader.specs.declared.sexps.SexpNode.{SexpNode}
use Rattle.sexpr_reader.specs.declared.sexps.SexpNode.TheVariants.{Int, Bool as Truth, Symbol, List as ListNode}
use Rattle.sexpr_reader.specs.declared.sexps.SexpList.{SexpList}
use Rattle.sexpr_reader.specs.declared.sexps.SexpList.TheVariants.{Nil, Cons'}

abbrev mutual
  -- a node at this place
  pub datum_at : Pos → SexpNode → Datum
  datum_at p (Int n) = leaf_datum p (integer n)
  datum_at p (Truth b) = leaf_datum p (truth b)
  datum_at p (Symbol name) = leaf_datum p (symbol name)
  datum_at p (ListNode list) = list_datum p (datums_of list)

  pub datums_of : SexpList → Datums
  datums_of Nil = no_datums
  datums_of (Cons' a p node b rest) = datum_then (datum_at p node) (datums_of rest)

abbrev pub datum_of : Sexp → Datum
datum_of s = datum_at (out-Sexp s).pos (out-Sexp s).node
