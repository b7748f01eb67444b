-- The report of a row with one object more.
use Rattle.std.proofs.Common.{◌≡◌, ℕ, ◌+◌, ◌-◌, ◌*◌, ◌≤◌, List, [], ◌∷◌, ◌++◌, length, max, sym, ap, ◌∙◌}
use Rattle.std.proofs.Common.{arith, length-append, Bool, true, false}
use Rattle.std.specs.Prelude.{if◌then◌else◌, ◌&&◌}
use Rattle.object_layout.specs.declared.headers.Header.{Header}
use Rattle.object_layout.specs.declared.wholes.Area.{Area}
use Rattle.object_layout.specs.declared.walks.SpaceReport.{SpaceReport}
use Rattle.object_layout.specs.Wholes.{Telling, Fills}
use Rattle.object_layout.specs.Reports.{sum_over, greatest_over, proxy_count}
use Rattle.object_layout.specs.Reports.{stacked_count, proxy_height, report_of}

pub at_most_one : (b : Bool) → (if b then 1 else 0) ≤ 1
at_most_one true = omega arith
at_most_one false = omega arith

pub fewer_both : (a b : Bool) → (if a && b then 1 else 0) ≤ (if a then 1 else 0)
fewer_both true true = omega arith
fewer_both true false = omega arith
fewer_both false b = omega arith

-- two reports that say the same
same_report : (r other : SpaceReport) → r.bytes ≡ other.bytes → r.objects ≡ other.objects → r.proxies ≡ other.proxies →
    r.stacked ≡ other.stacked → r.highest ≡ other.highest → r ≡ other
same_report r other b o p s t =
    λ i. record { bytes = b i; objects = o i; proxies = p i; stacked = s i; highest = t i }

module _ (memory : Telling) (area : Area) where
  sum_over-one_more : (f : ℕ → Header → ℕ) (end from at : ℕ) (headers : List Header) (h : Header) →
      Fills memory area end from headers at → sum_over f from (headers ++ h ∷ []) ≡ sum_over f from headers + f at h
  sum_over-one_more f end from at [] h fills =
      let here : f from h ≡ f at h = ap (λ a. f a h) fills in omega arith
  sum_over-one_more f end from at (k ∷ rest) h fills =
      let others = sum_over-one_more f end (from + (8 + 8 * k.count)) at rest h fills.1 in omega arith

  greatest_over-one_more : (f : ℕ → Header → ℕ) (end from at : ℕ) (headers : List Header) (h : Header) →
      Fills memory area end from headers at →
      greatest_over f from (headers ++ h ∷ []) ≡ max (greatest_over f from headers) (f at h)
  greatest_over-one_more f end from at [] h fills =
      let here : f from h ≡ f at h = ap (λ a. f a h) fills in omega arith
  greatest_over-one_more f end from at (k ∷ rest) h fills =
      let others = greatest_over-one_more f end (from + (8 + 8 * k.count)) at rest h fills.1 in omega arith

  -- where each count is that of before and of the object, and the height the greater of both
  pub report_one_more : (end from at to : ℕ) (headers : List Header) (h : Header) (old new : SpaceReport) →
      Fills memory area end from headers at → old ≡ report_of memory from headers to → new.bytes ≡ old.bytes →
      new.objects ≡ old.objects + 1 → new.proxies ≡ old.proxies + proxy_count at h →
      new.stacked ≡ old.stacked + stacked_count memory at h → new.highest ≡ max old.highest (proxy_height memory at h) →
      new ≡ report_of memory from (headers ++ h ∷ []) to
  report_one_more end from at to headers h old new fills known bytes objects proxies stacked highest =
      let b : new.bytes ≡ to - from = bytes ∙ ap (λ r. r.bytes) known in
      let longer = length-append headers (h ∷ []) in
      let o : new.objects ≡ length (headers ++ h ∷ []) =
      let one = ap (λ r. r.objects) known in omega arith in
      let p : new.proxies ≡ sum_over proxy_count from (headers ++ h ∷ []) =
      proxies ∙ ap (λ r. r.proxies + proxy_count at h) known ∙
      sym (sum_over-one_more proxy_count end from at headers h fills) in
      let s : new.stacked ≡ sum_over (stacked_count memory) from (headers ++ h ∷ []) =
      stacked ∙ ap (λ r. r.stacked + stacked_count memory at h) known ∙
      sym (sum_over-one_more (stacked_count memory) end from at headers h fills) in
      let t : new.highest ≡ greatest_over (proxy_height memory) from (headers ++ h ∷ []) =
      highest ∙ ap (λ r. max r.highest (proxy_height memory at h)) known ∙
      sym (greatest_over-one_more (proxy_height memory) end from at headers h fills) in
      same_report new (report_of memory from (headers ++ h ∷ []) to) b o p s t
