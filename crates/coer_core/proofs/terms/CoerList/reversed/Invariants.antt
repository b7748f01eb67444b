use Rattle.std.proofs.Common.{◌≡◌}
use Rattle.coer_core.specs.Terms.{NoRowTerms}
use Rattle.coer_core.specs.TermLists.{terms_onto}
use Rattle.coer_core.specs.Views.{row_terms_of}
use Rattle.coer_core.proofs.terms.CoerList.reversed.Given as goal

abbrev pub invariant-loop-self : goal.invariant-loop-self
invariant-loop-self l =
    terms_onto (row_terms_of l.self) (row_terms_of l.turned) ≡ terms_onto (row_terms_of l.fn.self) NoRowTerms
