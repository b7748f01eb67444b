-- Functions that know each other.
use Rattle.std.proofs.Common.{◌≡◌, ℕ, suc, ◌+◌, ◌≤◌, List, [], ◌∷◌, ◌++◌, length, Option, Some, None, refl, sym, ap}
use Rattle.std.proofs.Common.{subst, arith}
use Rattle.grift_base.specs.declared.places.Pos.{Pos}
use Rattle.grift_base.specs.Types.{TypeRows, FunRow, row_at}
use Rattle.core_calc.specs.Terms.{Members, Seq, NoMembers, MemberThen, member_names}
use Rattle.core_calc.specs.Typing.{Context, IsWritten, HasType, MembersHaveTypes, IsFunction, member_types, binders}
use Rattle.core_calc.specs.Typing.{all_binders, member_binders, AreWrittenMembers}
use Rattle.cast_rules.proofs.Tables.{IsFormedTable, more_parts}
use Rattle.surface_trees.specs.declared.names.Ident.{Ident}
use Rattle.surface_trees.specs.Trees.{TypeExpr, Param, LambdaExpr, Exprs, LetrecMembers, LetrecNode, LambdaAt}
use Rattle.surface_trees.specs.Trees.{NoLetrecs, LetrecThen}
use Rattle.cast_rules.specs.Sources.{last_place}
use Rattle.cast_rules.specs.Making.{Work, Making}
use Rattle.cast_rules.specs.Environments.{Environment, with_names, variables, types_of, Head, head_of, heads_of}
use Rattle.cast_rules.specs.Environments.{consistent_if, names_of_heads}
use Rattle.cast_rules.specs.Elaboration.{seq, MemberBody, elaborate_node, elaborate_sequence, elaborate_members}
use Rattle.cast_rules.specs.Elaboration.{elaborate_member}
use Rattle.type_graph.specs.TypeTables.{HasMoreRows}
use Rattle.type_graph.proofs.Public.{row_stays, later_within}
use Rattle.cast_rules.proofs.Forming.{rows_joined, one_row, row_within, parts_within, split_last}
use Rattle.cast_rules.specs.Programs.{MayBeWritten, IsSourceLambda, AreSourceMembers}
use Rattle.cast_rules.proofs.Fresh.{AreFresh, times, times_append, no_names, append_names, widen_names}
use Rattle.cast_rules.proofs.Growing.{grow_members}
use Rattle.cast_rules.proofs.Works.{Keeps, then_keeps, Grown, not_grown, grown_on, FormsType, FormsRow, row_formed}
use Rattle.cast_rules.proofs.Works.{test_keeps, MayForm, written_if_formed, CastsTo, cast_to_keeps, MayHaveRow}
use Rattle.cast_rules.proofs.Works.{may_later}
use Rattle.cast_rules.proofs.Environments.{Fits, fits_later, context_of, Rising, HaveRows, rising_from, rising_fresh}
use Rattle.cast_rules.proofs.Environments.{more_names, fits_with, IsNext, binds_all, FormsParameters}
use Rattle.cast_rules.proofs.Environments.{parameters_formed, type_or_dyn_formed, BindsNames, names_bound}
use Rattle.cast_rules.proofs.Parts.{Elaborates}
use Rattle.cast_rules.proofs.Nodes.{Runs, fits_grown}
use Rattle.cast_rules.proofs.Lists.{RunsSequence}
use Rattle.cast_rules.proofs.Scopes.{bound_grown, bound_fits, next_grown}

-- ---- heads

-- the member's type is the function type of its parameters and its result, and its written type has a row
pub record HeadFits (types : TypeRows) (head : Head) : Type 0 where
  pub function : row_at types head.meaning.type ≡ Some (FunRow head.parameters head.answer)
  pub wanted : MayHaveRow types head.meaning.written

abbrev pub HeadsFit : TypeRows → List Head → Type 0
HeadsFit types [] = Unit {0}
HeadsFit types (head ∷ rest) = HeadFits types head × HeadsFit types rest

head_later : (a b : TypeRows) (head : Head) → HasMoreRows a b → HeadFits a head → HeadFits b head
head_later a b head more h = record {
  function = row_stays a b head.meaning.type (FunRow head.parameters head.answer) more h.function;
  wanted = may_later a b head.meaning.written more h.wanted;
}

pub heads_later : (a b : TypeRows) (heads : List Head) → HasMoreRows a b → HeadsFit a heads → HeadsFit b heads
heads_later a b [] more h = tt
heads_later a b (head ∷ rest) more h = (head_later a b head more h.0, heads_later a b rest more h.1)

heads_have_rows : (types : TypeRows) (heads : List Head) → HeadsFit types heads → HaveRows types (names_of_heads heads)
heads_have_rows types [] h = tt
heads_have_rows types (head ∷ rest) h = (
  row_within types head.meaning.type (FunRow head.parameters head.answer) h.0.function,
  h.0.wanted,
  heads_have_rows
      types rest h.1,
)

-- as many types as parameters
abbrev pub HasAsMany : LambdaExpr → Head → Type 0
HasAsMany (LambdaAt place parameters result body) head = length head.parameters ≡ length parameters

-- as many heads as members, each with as many types as its member has parameters
abbrev pub SameNumber : LetrecMembers → List Head → Type 0
SameNumber NoLetrecs [] = Unit {0}
SameNumber NoLetrecs (head ∷ heads) = ⊥
SameNumber (LetrecThen name own lambda rest) [] = ⊥
SameNumber (LetrecThen name own lambda rest) (head ∷ heads) = HasAsMany lambda head × SameNumber rest heads

pub record HeadMade (before : Work) (lambda : LambdaExpr) (head : Head) (after : Work) : Type 0 where
  pub grown : Grown before after
  pub fits : HeadFits after.types head
  pub first : before.next ≤ head.meaning.variable
  pub last : suc head.meaning.variable ≤ after.next
  pub wide : HasAsMany lambda head

pub record HeadsMade (before : Work) (members : LetrecMembers) (heads : List Head) (after : Work) : Type 0 where
  pub grown : Grown before after
  pub fit : HeadsFit after.types heads
  pub rising : Rising before.next after.next (names_of_heads heads)
  pub number : SameNumber members heads

consistent_if_keeps : (P : Work → Type 0) (place : Pos) (wanted : Option ℕ) (type : ℕ) (work : Work) → P work → Keeps
    (λ answer after. P after) (consistent_if place wanted type work)
consistent_if_keeps P place (Some other) type work h = test_keeps P _ _ _ work h
consistent_if_keeps P place None type work h = h

head_made : (name : Ident) (own : Option TypeExpr) (lambda : LambdaExpr) (work : Work) → IsSourceLambda lambda →
    MayBeWritten own → IsFormedTable work.types → Keeps (λ head after. HeadMade work lambda head after) (head_of name
    own lambda work)
head_made name own (LambdaAt place parameters result body) work source own_source table =
    then_keeps (λ named after. FormsParameters work parameters named after) (λ head after. HeadMade work (LambdaAt
    place parameters result body) head after) _ _
    (parameters_formed parameters work source.1 table)
    (λ named w1 p. then_keeps (λ answer after. FormsType w1 answer after) (λ head after. HeadMade work (LambdaAt place
    parameters result body) head after) _ _
    (type_or_dyn_formed result w1 source.3 p.0.table)
    (λ answer w2 a. then_keeps (λ wanted after. MayForm w2 wanted after) (λ head after. HeadMade work (LambdaAt place
    parameters result body) head after) _ _
    (written_if_formed own w2 own_source a.0.table)
    (λ wanted w3 o.
    let g13 = grown_on w1 w2 w3 a.0 o.0 in
    let g3 = grown_on work w1 w3 p.0 g13 in
    let row = FunRow named answer in
    then_keeps (λ type after. FormsRow w3 row type after) (λ head after. HeadMade work (LambdaAt place parameters
    result body) head after) _ _
    (row_formed w3 row o.0.table (rows_joined w3.types named (answer ∷ []) (more_parts w1.types w3.types named
    g13.types p.1) (one_row w3.types answer (later_within w2.types w3.types answer o.0.types a.1))))
    (λ type w4 f.
    then_keeps (λ answer after. FormsRow w3 row type after) (λ head after. HeadMade work (LambdaAt place parameters
    result body) head after) _ _
    (test_keeps (λ after. FormsRow w3 row type after) _ _ _ w4 f)
    (λ small w5 f5. then_keeps (λ answer after. FormsRow w3 row type after) (λ head after. HeadMade work (LambdaAt
    place parameters result body) head after) _ _
    (consistent_if_keeps (λ after. FormsRow w3 row type after) place wanted type w5 f5)
    (λ agrees w6 f6. then_keeps (λ variable after. IsNext w6 variable after) (λ head after. HeadMade work (LambdaAt
    place parameters result body) head after) _ _
    (refl, refl)
    (λ variable w7 n.
    let g67 = next_grown w6 variable w7 f6.0.table n in
    let g37 = grown_on w3 w6 w7 f6.0 g67.0 in
    let g6 = grown_on work w3 w6 g3 f6.0 in
    record {
      grown = grown_on work w6 w7 g6 g67.0;
      fits = record {
        function = row_stays w6.types w7.types type row g67.0.types f6.1;
        wanted = may_later w3.types w7.types wanted g37.types o.1;
      };
      first = (let e = n.0 in let m = g6.next in omega arith);
      last = (let e = g67.1 in omega arith);
      wide = p.2;
    })))))))

pub heads_made : (members : LetrecMembers) (work : Work) → AreSourceMembers members → IsFormedTable work.types → Keeps
    (λ heads after. HeadsMade work members heads after) (heads_of members work)
heads_made NoLetrecs work source table = record {
  grown = not_grown work table;
  fit = tt;
  rising = omega arith;
  number
      = tt;
}
heads_made (LetrecThen name own lambda rest) work source table =
    then_keeps (λ head after. HeadMade work lambda head after) (λ heads after. HeadsMade work (LetrecThen name own
    lambda rest) heads after) _ _
    (head_made name own lambda work source.0 source.1 table)
    (λ head one h. then_keeps (λ heads after. HeadsMade one rest heads after) (λ heads after. HeadsMade work
    (LetrecThen name own lambda rest) heads after) _ _
    (heads_made rest one source.2 h.grown.table)
    (λ others two k. record {
      grown = grown_on work one two h.grown k.grown;
      fit = (head_later one.types two.types head k.grown.types h.fits, k.fit);
      rising = (
        h.first,
        rising_from (suc head.meaning.variable) one.next two.next (names_of_heads others) h.last
            k.rising,
      );
      number = (h.wide, k.number);
    }))

-- ---- members

-- the names that members bind inside, without their own
abbrev pub inner_names : Members → List ℕ
inner_names NoMembers = []
inner_names (MemberThen name parameters body type rest) = (parameters ++ binders body) ++ inner_names rest

names_of_members : (x : ℕ) (members : Members) → times x (member_binders members) ≡ times x (member_names members) +
    times x (inner_names members)
names_of_members x NoMembers = omega arith
names_of_members x (MemberThen name parameters body type rest) =
    let ih = names_of_members x rest in
    let a = times_append x ((name ∷ parameters) ++ binders body) (member_binders rest) in
    let b = times_append x (name ∷ parameters) (binders body) in
    let c = times_append x (parameters ++ binders body) (inner_names rest) in
    let d = times_append x parameters (binders body) in
    omega arith

member_names_fresh : (first middle last : ℕ) (members : Members) (names : List ℕ) → member_names members ≡ names →
    AreFresh first middle names → AreFresh middle last (inner_names members) → AreFresh first last (member_binders
    members)
member_names_fresh first middle last members names same one two x =
    let a = names_of_members x members in
    let b = ap (λ ns. times x ns) same in
    let c = one x in
    let d = two x in
    omega arith

pub record MemberMade (before : Work) (context : Context) (head : Head) (made : MemberBody) (after : Work) : Type 0
  where
    pub grown : Grown before after
    pub typed : IsFunction after.types made.variables head.meaning.type (λ bound answer. HasType after.types (length
        after.labels) [] (bound ++ context) made.body answer)
    pub written : IsWritten made.body
    pub own : AreFresh before.next after.next (made.variables ++ binders made.body)

abbrev pub RunsMember : Context → Environment → LambdaExpr → Head → Making MemberBody → Type 0
RunsMember context environment lambda head making = (work : Work) → IsFormedTable work.types → Fits work.types
    work.next context environment → HeadFits work.types head → HasAsMany lambda head → Keeps (λ made after. MemberMade
    work context head made after) (making work)

pub member_keeps : (place : Pos) (parameters : List Param) (result : Option TypeExpr) (body : Exprs) (head : Head)
    (context : Context) (environment : Environment) → ((inner : Context) (names : Environment) → RunsSequence inner
    names (elaborate_sequence body names)) → RunsMember context environment (LambdaAt place parameters result body)
    head (elaborate_member (LambdaAt place parameters result body) head environment)
member_keeps place parameters result body head context environment runs work table h fits wide =
    let parts = split_last work.types head.parameters head.answer (parts_within work.types head.meaning.type (FunRow
    head.parameters head.answer) table fits.function) in
    then_keeps (λ entries after. BindsNames work head.parameters entries after) (λ made after. MemberMade work context
    head made after) _ _
    (names_bound place parameters head.parameters work wide)
    (λ entries w1 b.
    let g1 = bound_grown work w1 head.parameters entries table b in
    let inner = context_of entries ++ context in
    then_keeps (λ s after. Elaborates w1 inner (seq s) after) (λ made after. MemberMade work context head made after) _
    _
    (runs inner (with_names entries environment) w1 g1.table (bound_fits work w1 head.parameters entries environment
    context parts.0 h b))
    (λ s w2 k.
    let g2 = grown_on work w1 w2 g1 k.0 in
    then_keeps (λ e after. CastsTo w2 inner w1.next w2.next head.answer e after) (λ made after. MemberMade work context
    head made after) _ _
    (cast_to_keeps (last_place place body) inner w1.next w2.next (seq s) head.answer w2 k.0.table k.1 (later_within
    work.types w2.types head.answer g2.types parts.1))
    (λ e w3 c.
    let g3 = grown_on work w2 w3 g2 c.0 in
    let function = row_stays work.types w3.types head.meaning.type (FunRow head.parameters head.answer) g3.types
    fits.function in
    record {
      grown = g3;
      typed = (
        types_of entries,
        head.answer,
        context_of entries,
        subst (λ types. row_at w3.types head.meaning.type ≡ Some (FunRow types head.answer)) (sym b.same) function,
        binds_all entries,
        subst (λ type. HasType w3.types (length w3.labels) [] inner e.term type) c.2 c.1.typed,
      );
      written = c.1.written;
      own = append_names work.next w1.next w3.next (variables entries) (binders e.term) (rising_fresh work.next w1.next
          entries b.rising)
          (widen_names w1.next w1.next w2.next w3.next (binders e.term) (omega arith) c.0.next c.1.own);
    })))

pub record MembersMade (before : Work) (context : Context) (heads : List Head) (made : Members) (after : Work) : Type 0
  where
    pub grown : Grown before after
    pub typed : MembersHaveTypes after.types (length after.labels) [] context made
    pub written : AreWrittenMembers made
    pub own : AreFresh before.next after.next (inner_names made)
    pub names : member_names made ≡ variables (names_of_heads heads)
    pub types : member_types made ≡ context_of (names_of_heads heads)

abbrev pub RunsMembers : Context → Environment → LetrecMembers → List Head → Making Members → Type 0
RunsMembers context environment members heads making = (work : Work) → IsFormedTable work.types → Fits work.types
    work.next context environment → HeadsFit work.types heads → SameNumber members heads → Keeps (λ made after.
    MembersMade work context heads made after) (making work)

pub members_of_none : (context : Context) (environment : Environment) → RunsMembers context environment NoLetrecs []
    (elaborate_members NoLetrecs [] environment)
members_of_none context environment work table h fit number =
    record {
      grown = not_grown work table;
      typed = tt;
      written = tt;
      own = no_names work.next work.next (omega arith);
      names = refl;
      types = refl;
    }

pub members_of_more : (name : Ident) (own : Option TypeExpr) (lambda : LambdaExpr) (rest : LetrecMembers) (head : Head)
    (heads : List Head) (context : Context) (environment : Environment) → RunsMember context environment lambda head
    (elaborate_member lambda head environment) → RunsMembers context environment rest heads (elaborate_members rest
    heads environment) → RunsMembers context environment (LetrecThen name own lambda rest) (head ∷ heads)
    (elaborate_members (LetrecThen name own lambda rest) (head ∷ heads) environment)
members_of_more name own lambda rest head heads context environment runs runs_rest work table h fit number =
    then_keeps (λ made after. MemberMade work context head made after) (λ made after. MembersMade work context (head ∷
    heads) made after) _ _
    (runs work table h fit.0 number.0)
    (λ member one k. then_keeps (λ made after. MembersMade one context heads made after) (λ made after. MembersMade
    work context (head ∷ heads) made after) _ _
    (runs_rest one k.grown.table (fits_grown work one context environment k.grown h) (heads_later work.types one.types
    heads k.grown.types fit.1) number.1)
    (λ others two l.
    let whole = subst (λ types. MembersHaveTypes types (length two.labels) [] context (MemberThen head.meaning.variable
    member.variables member.body head.meaning.type NoMembers)) (sym l.grown.types.1)
    (grow_members one.types l.grown.types.0 (length one.labels) (length two.labels) l.grown.labels [] (MemberThen
    head.meaning.variable member.variables member.body head.meaning.type NoMembers) context (k.typed, tt)) in
    record {
      grown = grown_on work one two k.grown l.grown;
      typed = (whole.0, l.typed);
      written = (k.written, l.written);
      own = append_names work.next one.next two.next (member.variables ++ binders member.body) (inner_names others)
          k.own l.own;
      names = ap (λ ns. head.meaning.variable ∷ ns) l.names;
      types = ap (λ ts. (head.meaning.variable, head.meaning.type) ∷ ts) l.types;
    }))

pub letrec_keeps : (members : LetrecMembers) (body : Exprs) (place : Pos) (context : Context) (environment :
    Environment) → AreSourceMembers members → ((heads : List Head) (inner : Context) (names : Environment) →
    RunsMembers inner names members heads (elaborate_members members heads names)) → ((inner : Context) (names :
    Environment) → RunsSequence inner names (elaborate_sequence body names)) → Runs context environment (elaborate_node
    (LetrecNode members body) place environment)
letrec_keeps members body place context environment source runs runs_body work table h =
    then_keeps (λ heads after. HeadsMade work members heads after) (λ e after. Elaborates work context e after) _ _
    (heads_made members work source table)
    (λ heads w1 k.
    let inner = context_of (names_of_heads heads) ++ context in
    let names = with_names (names_of_heads heads) environment in
    let fits = fits_with w1.types w1.next inner (names_of_heads heads) environment
    (more_names w1.types work.next w1.next context (names_of_heads heads) environment k.rising
    (heads_have_rows w1.types heads k.fit)
    (fits_later work.types w1.types work.next work.next context environment k.grown.types (omega arith) h)) in
    then_keeps (λ made after. MembersMade w1 inner heads made after) (λ e after. Elaborates work context e after) _ _
    (runs heads inner names w1 k.grown.table fits k.fit k.number)
    (λ group w2 m. then_keeps (λ s after. Elaborates w2 inner (seq s) after) (λ e after. Elaborates work context e
    after) _ _
    (runs_body inner names w2 m.grown.table (fits_grown w1 w2 inner names m.grown fits))
    (λ s w3 l.
    let members_typed = subst (λ types. MembersHaveTypes types (length w3.labels) [] inner group) (sym l.0.types.1)
    (grow_members w2.types l.0.types.0 (length w2.labels) (length w3.labels) l.0.labels [] group inner m.typed) in
    let own_names = member_names_fresh work.next w1.next w2.next group (variables (names_of_heads heads)) m.names
    (rising_fresh work.next w1.next (names_of_heads heads) k.rising) m.own in (
      grown_on work w1 w3 k.grown (grown_on w1 w2 w3 m.grown l.0),
      record {
        typed = subst (λ bound. MembersHaveTypes w3.types (length w3.labels) [] (bound ++ context) group × HasType
            w3.types (length w3.labels) [] (bound ++ context) (Seq s.terms) s.type) (sym m.types) (
              members_typed,
              l.1.typed,
            );
        row = l.1.row;
        written = (m.written, l.1.written);
        own = append_names work.next w2.next w3.next (member_binders group) (all_binders s.terms) own_names l.1.own;
        inside = tt;
      },
    ))))
