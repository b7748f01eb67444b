-- Lists of terms turned round.
use Rattle.coer_core.specs.Terms.{RowTerms, NoRowTerms, RowTermThen, RowMembers, NoRowMembers, RowMemberThen}
use Rattle.coer_core.specs.Terms.{RowBindings, NoRowBindings, RowBindingThen}

-- in front of the rest, terms of which the last comes first
abbrev pub terms_onto : RowTerms → RowTerms → RowTerms
terms_onto NoRowTerms rest = rest
terms_onto (RowTermThen term done) rest = terms_onto done (RowTermThen term rest)

-- the same for members
abbrev pub members_onto : RowMembers → RowMembers → RowMembers
members_onto NoRowMembers rest = rest
members_onto (RowMemberThen name parameters body type done) rest =
    members_onto done (RowMemberThen name parameters body type rest)

-- the same for bindings
abbrev pub bindings_onto : RowBindings → RowBindings → RowBindings
bindings_onto NoRowBindings rest = rest
bindings_onto (RowBindingThen name bound done) rest = bindings_onto done (RowBindingThen name bound rest)
