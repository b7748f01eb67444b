-- Bodies: names that are left, lists that are turned round, and the first element of one.
use Rattle.std.proofs.Common.{◌≡◌, List, length, sym, ap, ◌∙◌}
use Rattle.std.specs.Prelude.{drop}
use Rattle.std.proofs.lemmas.List.{length-map}
use Rattle.insert_steps.specs.declared.names.Named.{Named}
use Rattle.cast_insert.specs.declared.heads.Head.{Head as RustHead}
use Rattle.cast_rules.specs.Environments.{Environment, Head, with_names, names_of_heads}
use Rattle.insert_steps.specs.Scoped.{env_of}
use Rattle.cast_insert.specs.Heads.{head_seen, heads_seen}
use Rattle.insert_steps.specs.Views.{meaning_seen}
use Rattle.insert_steps.proofs.Public.{bindings_turned, members_turned, with_names_drop}

-- ---- names that are left

pub names_left : (names : List Named) (environment : Environment) →
    drop (length names) (with_names (env_of names) environment) ≡ environment
names_left names environment =
    ap (λ n. drop n (with_names (env_of names) environment))
    (sym (length-map names (λ (n : Named). (n.name, meaning_seen n.meaning))))
    ∙ with_names_drop (env_of names) environment

pub heads_left : (heads : List RustHead) (environment : Environment) →
    drop (length heads) (with_names (names_of_heads (heads_seen heads)) environment) ≡ environment
heads_left heads environment =
    ap (λ n. drop n (with_names (names_of_heads (heads_seen heads)) environment))
    (sym (length-map heads head_seen) ∙ sym (length-map (heads_seen heads) (λ (h : Head). (h.name, h.meaning))))
    ∙ with_names_drop (names_of_heads (heads_seen heads)) environment

pub ruleset body_steps = (names_left, heads_left, bindings_turned, members_turned)
