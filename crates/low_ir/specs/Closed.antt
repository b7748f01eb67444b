-- What it is for a program to be closed: each word is set before it is read, whatever path is taken, and what is named
-- is there. What is known of the words that are set is told by three functions, so that it can be told in pieces too.
use Rattle.std.specs.Prelude.{ℕ, ◌==◌, ◌&&◌, ◌||◌, nat_lt, nat_le, Bool, true, false, List, [], ◌∷◌, length, Option}
use Rattle.std.specs.Prelude.{Some}
use Rattle.std.specs.Prelude.{None, slice_get}
use Rattle.low_ir.specs.declared.code.LowSource.{LowSource}
use Rattle.low_ir.specs.declared.code.LowSource.TheVariants.{Word, Number}
use Rattle.low_ir.specs.Procedures.{Code, Done, Set, Compute, Load, Store, CodeOf, Build, Request, Take, Environment}
use Rattle.low_ir.specs.Procedures.{Call}
use Rattle.low_ir.specs.Procedures.{CallAt, If, Return, TailCall, TailCallAt, Proc}

-- whether a word is set, one more word that is set, and the words that are set in both
pub record Knowledge (A : Type 0) : Type 0 where
  pub has : A → ℕ → Bool
  pub also : ℕ → A → A
  pub both : A → A → A

-- goes on where a test holds
abbrev pub go_if : {A : Type 0} → Bool → Option A → Option A
go_if true o = o
go_if false o = None

abbrev pub then_known : {A : Type 0} → Option A → (A → Option A) → Option A
then_known None go = None
then_known (Some known) go = go known

-- a code never comes to its end
abbrev pub leaves : Code → Bool
leaves Done = false
leaves (Set d a rest) = leaves rest
leaves (Compute op d a b rest) = leaves rest
leaves (Load d a offset rest) = leaves rest
leaves (Store b a offset rest) = leaves rest
leaves (CodeOf d k rest) = leaves rest
leaves (Build d args rest) = leaves rest
leaves (Request d a rest) = leaves rest
leaves (Take a rest) = leaves rest
leaves (Environment number a b d e rest) = leaves rest
leaves (Call d k args rest) = leaves rest
leaves (CallAt d f args rest) = leaves rest
leaves (If cond a b one other rest) = (leaves one && leaves other) || leaves rest
leaves (Return a) = true
leaves (TailCall k args) = true
leaves (TailCallAt f args) = true

-- a procedure is there and takes so many words
abbrev pub takes_words : Option Proc → List LowSource → Bool
takes_words None args = false
takes_words (Some p) args = length args == p.params

-- the sources that a code reads first
abbrev pub reads : Code → List LowSource
reads Done = []
reads (Set d a rest) = a ∷ []
reads (Compute op d a b rest) = a ∷ b ∷ []
reads (Load d a offset rest) = a ∷ []
reads (Store b a offset rest) = b ∷ a ∷ []
reads (CodeOf d k rest) = []
reads (Build d args rest) = args
reads (Request d a rest) = a ∷ []
reads (Take a rest) = a ∷ []
reads (Environment number a b d e rest) = a ∷ b ∷ []
reads (Call d k args rest) = args
reads (CallAt d f args rest) = f ∷ args
reads (If cond a b one other rest) = a ∷ b ∷ []
reads (Return a) = a ∷ []
reads (TailCall k args) = args
reads (TailCallAt f args) = f ∷ args

-- what it names is there, and no number in it is too large; told the procedures and how many words this one has
abbrev pub names_fit : List Proc → ℕ → Code → Bool
names_fit procs n Done = true
names_fit procs n (Set d a rest) = nat_lt d n
names_fit procs n (Compute op d a b rest) = nat_lt d n
names_fit procs n (Load d a offset rest) = nat_lt d n && nat_lt offset 2048
names_fit procs n (Store b a offset rest) = nat_lt offset 2048
names_fit procs n (CodeOf d k rest) = nat_lt d n && nat_lt k (length procs)
names_fit procs n (Build d args rest) = nat_lt d n && nat_lt (length args) 256
names_fit procs n (Request d a rest) = nat_lt d n
names_fit procs n (Take a rest) = true
names_fit procs n (Environment number a b d e rest) = nat_lt d n && nat_lt e n
names_fit procs n (Call d k args rest) = nat_lt d n && takes_words (slice_get procs k) args
names_fit procs n (CallAt d f args rest) = nat_lt d n && nat_le (length args) 8
names_fit procs n (If cond a b one other rest) = true
names_fit procs n (Return a) = true
names_fit procs n (TailCall k args) = takes_words (slice_get procs k) args
names_fit procs n (TailCallAt f args) = nat_le (length args) 8

module _ {A : Type 0} (K : Knowledge A) where
  -- a source may be read in a procedure of n words
  abbrev pub is_read : ℕ → A → LowSource → Bool
  is_read n known (Word i) = nat_lt i n && K.has known i
  is_read n known (Number m) = true

  abbrev pub are_read : ℕ → A → List LowSource → Bool
  are_read n known [] = true
  are_read n known (a ∷ args) = is_read n known a && are_read n known args

  -- a code may be done next
  abbrev pub fits : List Proc → ℕ → A → Code → Bool
  fits procs n known c = are_read n known (reads c) && names_fit procs n c

  abbrev pub meet : Option A → Option A → Option A
  meet None o = None
  meet (Some a) None = None
  meet (Some a) (Some b) = Some (K.both a b)

  -- goes on with what is known, where a code may be done
  abbrev pub if_fits : List Proc → ℕ → A → Code → Option A → Option A
  if_fits procs n known c o = go_if (fits procs n known c) o

  -- what is known at the end of a code, or where it leaves, if all of it may be done; told the procedures, how many
  -- words this one has, and what is known before it
  abbrev pub behind : List Proc → ℕ → A → Code → Option A
  behind procs n known Done = Some known
  behind procs n known (Set d a rest) = if_fits procs n known (Set d a rest) (behind procs n (K.also d known) rest)
  behind procs n known (Compute op d a b rest) =
      if_fits procs n known (Compute op d a b rest) (behind procs n (K.also d known) rest)
  behind procs n known (Load d a offset rest) =
      if_fits procs n known (Load d a offset rest) (behind procs n (K.also d known) rest)
  behind procs n known (Store b a offset rest) =
      if_fits procs n known (Store b a offset rest) (behind procs n known rest)
  behind procs n known (CodeOf d k rest) =
      if_fits procs n known (CodeOf d k rest) (behind procs n (K.also d known) rest)
  behind procs n known (Build d args rest) =
      if_fits procs n known (Build d args rest) (behind procs n (K.also d known) rest)
  behind procs n known (Request d a rest) =
      if_fits procs n known (Request d a rest) (behind procs n (K.also d known) rest)
  behind procs n known (Take a rest) = if_fits procs n known (Take a rest) (behind procs n known rest)
  behind procs n known (Environment number a b d e rest) =
      if_fits procs n known (Environment number a b d e rest) (behind procs n (K.also e (K.also d known)) rest)
  behind procs n known (Call d k args rest) =
      if_fits procs n known (Call d k args rest) (behind procs n (K.also d known) rest)
  behind procs n known (CallAt d f args rest) =
      if_fits procs n known (CallAt d f args rest) (behind procs n (K.also d known) rest)
  behind procs n known (If cond a b one other rest) =
      if_fits procs n known (If cond a b one other rest)
      (then_known (meet (behind procs n known one) (behind procs n known other)) (λ k. behind procs n k rest))
  behind procs n known (Return a) = if_fits procs n known (Return a) (Some known)
  behind procs n known (TailCall k args) = if_fits procs n known (TailCall k args) (Some known)
  behind procs n known (TailCallAt f args) = if_fits procs n known (TailCallAt f args) (Some known)

-- all words at once
abbrev pub all_words : Knowledge (ℕ → Bool)
all_words = record {
  has = λ known i. known i;
  also = λ d known i. (i == d) || known i;
  both = λ a b i. a i && b i;
}

abbrev pub is_there : {A : Type 0} → Option A → Bool
is_there None = false
is_there (Some known) = true

abbrev pub proc_closed : List Proc → Proc → Bool
proc_closed procs p =
    nat_le p.params 8 && nat_le p.params p.words && leaves p.code
    && is_there (behind all_words procs p.words (λ i. nat_lt i p.params) p.code)

abbrev pub each_closed : List Proc → List Proc → Bool
each_closed procs [] = true
each_closed procs (p ∷ ps) = proc_closed procs p && each_closed procs ps

abbrev pub takes_none : Option Proc → Bool
takes_none None = false
takes_none (Some p) = p.params == 0

abbrev pub is_closed : List Proc → ℕ → Bool
is_closed procs entry = takes_none (slice_get procs entry) && each_closed procs procs
