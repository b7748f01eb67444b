-- What the loads of a command's files come to, one after another.
use Rattle.std.proofs.Common.{ℕ, ◌≡◌, List, [], ◌∷◌, ◌++◌, Option, Some, None, refl, sym, ap, ◌∙◌}
use Rattle.std.proofs.Common.{append-nil, append_assoc, Global}
use Rattle.std.specs.Prelude.{option_map, Err, Vec}
use Rattle.grift_base.specs.Outside.{Counts, next_count}
use Rattle.grift_base.specs.Shelf.{ShelfSeen, Loads, load_failed, asked_after}
use Rattle.grift_base.specs.declared.shelves.LoadFault.{LoadFault}
use Rattle.grift_base.specs.declared.shelves.LoadFault.TheVariants.{Failed, TooLong, OutOfMemory}
use Rattle.grift_cli.specs.Calls.{File, IsContent, FileComes, InputComes, LoadsFiles}

-- the names asked for: none more, one, and one after another
no_names : (asked : Option (List (List ℕ)))
    → option_map (λ (names : List (List ℕ)). names) asked ≡ option_map (λ before. before ++ []) asked
no_names None = refl
no_names (Some names) = ap Some (sym (append-nil names))

one_name : (asked middle after : Option (List (List ℕ))) (a : List ℕ)
    → middle ≡ option_map (λ names. names ++ a ∷ []) asked
    → after ≡ option_map (λ (names : List (List ℕ)). names) middle
    → after ≡ option_map (λ before. before ++ a ∷ []) asked
one_name None middle after a e f =
    f ∙ ap (option_map (λ (names : List (List ℕ)). names)) e
one_name (Some ns) middle after a e f =
    f ∙ ap (option_map (λ (names : List (List ℕ)). names)) e

two_names : (asked middle after : Option (List (List ℕ))) (a b : List ℕ)
    → middle ≡ option_map (λ names. names ++ a ∷ []) asked → after ≡ option_map (λ names. names ++ b ∷ []) middle
    → after ≡ option_map (λ before. before ++ a ∷ b ∷ []) asked
two_names None middle after a b e f = f ∙ ap (option_map (λ (names : List (List ℕ)). names ++ b ∷ [])) e
two_names (Some ns) middle after a b e f =
    f ∙ ap (option_map (λ (names : List (List ℕ)). names ++ b ∷ [])) e ∙ ap Some (append_assoc ns (a ∷ []) (b ∷ []))

-- the file itself isn't loaded
pub file_fails : (shelf : ShelfSeen) (file : File) (input : Option File) (fault : LoadFault)
    → Loads {Z = Global} (shelf.holds file.name) file.most (Err fault)
    → shelf.asked_after ≡ option_map (asked_after {A = Vec ℕ Global} (Err fault) file.name) shelf.asked
    → Counts (load_failed {A = Vec ℕ Global} (Err fault)) shelf.faults shelf.faults_after
    → LoadsFiles file input (Err fault) shelf
file_fails shelf file input Failed loads names count =
    record { before = []; last = file; comes = FileComes; asks = names; faults = count }
file_fails shelf file input TooLong loads names count =
    record { before = []; last = file; comes = FileComes; asks = names; faults = count; long = loads }
file_fails shelf file input OutOfMemory loads names count =
    record { before = []; last = file; comes = FileComes; asks = names ∙ no_names shelf.asked; faults = count }

module _ (shelf : ShelfSeen) (file : File) (bytes : List ℕ) (content : IsContent shelf file bytes)
    (asked : Option (List (List ℕ))) (faults : ℕ)
    (first : asked ≡ option_map (λ names. names ++ file.name ∷ []) shelf.asked) (none : faults ≡ shelf.faults) where
  -- the input isn't loaded
  pub input_fails : (input : Option File) (next : File) (fault : LoadFault) → input ≡ Some next
      → Loads {Z = Global} (shelf.holds next.name) next.most (Err fault)
      → shelf.asked_after ≡ option_map (asked_after {A = Vec ℕ Global} (Err fault) next.name) asked
      → Counts (load_failed {A = Vec ℕ Global} (Err fault)) faults shelf.faults_after
      → LoadsFiles file input (Err fault) shelf
  input_fails input next Failed e loads names count = record {
    before = file.name ∷ [];
    last = next;
    comes = InputComes content e;
    asks = two_names shelf.asked asked shelf.asked_after file.name next.name first names;
    faults = count ∙ ap next_count none;
  }
  input_fails input next TooLong e loads names count = record {
    before = file.name ∷ [];
    last = next;
    comes = InputComes content e;
    asks = two_names shelf.asked asked shelf.asked_after file.name next.name first names;
    faults = count ∙ none;
    long = loads;
  }
  input_fails input next OutOfMemory e loads names count = record {
    before = file.name ∷ [];
    last = next;
    comes = InputComes content e;
    asks = one_name shelf.asked asked shelf.asked_after file.name first names;
    faults = count ∙ none;
  }
