-- Lists that are gathered with the last one first: terms, bindings and members.
use Rattle.std.specs.Prelude.{List, [], ◌∷◌}
use Rattle.core_calc.specs.Terms.{Term, Terms, TermThen, Binding, Bindings, BindingThen, Member, Members, MemberThen}

-- terms behind these, of which the last one stands first
abbrev pub terms_onto : List Term → Terms → Terms
terms_onto [] terms = terms
terms_onto (term ∷ before) terms = terms_onto before (TermThen term terms)

-- bindings behind these, of which the last one stands first
abbrev pub bindings_onto : List Binding → Bindings → Bindings
bindings_onto [] bindings = bindings
bindings_onto (one ∷ before) bindings = bindings_onto before (BindingThen one.name one.bound bindings)

-- members behind these, of which the last one stands first
abbrev pub members_onto : List Member → Members → Members
members_onto [] members = members
members_onto (one ∷ before) members =
    members_onto before (MemberThen one.name one.parameters one.body one.type members)
