-- The laws of coercions over types without cycles.
use Rattle.std.proofs.Common.{◌≡◌, ℕ, suc, ◌+◌, sym, ap, ◌∙◌, subst, arith}
use Rattle.grift_base.specs.Types.{TypeRow}
use Rattle.coercion_norm.specs.Coercions.{Coercion}
use Rattle.coercion_norm.specs.Paths.{Steps, Stop, Edge, last_type, joined}
use Rattle.coercion_norm.specs.StandsFor.{AgreesTo, StandsFor}
use Rattle.coercion_norm.specs.Composition.{coerce_to, follow, coerce_solid, compose_to}
use Rattle.coercion_norm.specs.Heights.{TypeNoHigher, NoHigher}
use Rattle.coercion_norm.proofs.AgreementLemmas.{coerce_stands, compose_joins}
use Rattle.coercion_norm.proofs.PathLemmas.{last-joined, joined_joined}
use Rattle.coercion_norm.proofs.HeightLemmas.{compose_height}
use Rattle.coercion_norm.proofs.EnoughDepth.{coerce_enough, compose_enough}

module _ (rows : ℕ → TypeRow) where
  pub coerce_stands_for : (n s t p : ℕ) → TypeNoHigher rows n s → TypeNoHigher rows n t →
      StandsFor rows (coerce_to rows n s t p) s (Edge p t Stop)
  coerce_stands_for n s t p hs ht k =
      subst (λ c. AgreesTo rows k c s (Edge p t Stop)) (coerce_enough rows n (k + n) (omega arith) s t p hs ht)
      (coerce_stands rows k (k + n) (omega arith) s t p)

  pub compose_stands_for : (n : ℕ) (c d : Coercion) (t u : ℕ) (l m : Steps) → NoHigher rows c n → NoHigher rows d n →
      u ≡ last_type t l
      → StandsFor rows c t l → StandsFor rows d u m → StandsFor rows (compose_to rows n c d) t (joined l m)
  compose_stands_for n c d t u l m hc hd e sc sd k =
      subst (λ x. AgreesTo rows k x t (joined l m)) (compose_enough rows n (k + n) (omega arith) c d hc hd)
      (compose_joins rows k (k + n) (omega arith) c d t u l m e (sc k) (sd k))

  -- the table of composition, with the parts composed by the same function
  pub compose_by_table : (n : ℕ) (c d : Coercion) → NoHigher rows c n → NoHigher rows d n
      → compose_to rows n c d ≡ follow (compose_to rows n) (coerce_solid rows (coerce_to rows n)) c d
  compose_by_table n c d hc hd = sym (compose_enough rows n (suc n) (omega arith) c d hc hd)

-- three coercions, composed from the left or from the right, stand for the three paths one after the other
module _ (rows : ℕ → TypeRow) (n : ℕ) (c d e : Coercion) (t u v : ℕ) (l m o : Steps) where
  pub compose_three_right : NoHigher rows c n → NoHigher rows d n → NoHigher rows e n
      → u ≡ last_type t l → v ≡ last_type u m → StandsFor rows c t l → StandsFor rows d u m → StandsFor rows e v o
      → StandsFor rows (compose_to rows n c (compose_to rows n d e)) t (joined l (joined m o))
  compose_three_right hc hd he tu uv sc sd se =
      compose_stands_for rows n c (compose_to rows n d e) t u l (joined m o) hc
      (compose_height rows n n d e hd he) tu sc
      (compose_stands_for rows n d e u v m o hd he uv sd se)

  pub compose_three_left : NoHigher rows c n → NoHigher rows d n → NoHigher rows e n
      → u ≡ last_type t l → v ≡ last_type u m → StandsFor rows c t l → StandsFor rows d u m → StandsFor rows e v o
      → StandsFor rows (compose_to rows n (compose_to rows n c d) e) t (joined l (joined m o))
  compose_three_left hc hd he tu uv sc sd se =
      let ends : v ≡ last_type t (joined l m) = uv ∙ ap (λ x. last_type x m) tu ∙ sym (last-joined t l m) in
      subst (StandsFor rows (compose_to rows n (compose_to rows n c d) e) t) (joined_joined l m o)
      (compose_stands_for rows n (compose_to rows n c d) e t v (joined l m) o
      (compose_height rows n n c d hc hd) he ends
      (compose_stands_for rows n c d t u l m hc hd tu sc sd) se)
