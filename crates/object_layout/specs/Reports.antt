-- What is reported of a row of whole objects.
use Rattle.std.specs.Prelude.{ℕ, ◌+◌, ◌-◌, ◌*◌, ◌≡◌, ◌==◌, ◌&&◌, ◌<◌, max, Bool, false, if◌then◌else◌, List, [], ◌∷◌}
use Rattle.std.specs.Prelude.{length}
use Rattle.std.specs.Prelude.{Option, Some, None, option_and_then}
use Rattle.object_layout.specs.declared.headers.Header.{Header}
use Rattle.object_layout.specs.declared.walks.SpaceReport.{SpaceReport}
use Rattle.object_layout.specs.declared.walks.WalkFault.{WalkFault}
use Rattle.object_layout.specs.declared.walks.WalkFault.TheVariants.{Torn}
use Rattle.object_layout.specs.declared.kinds.Kind.TheVariants.{Proxy}
use Rattle.object_layout.specs.declared.wholes.Area.TheVariants.{Region}
use Rattle.object_layout.specs.Kinds.{kind_number}
use Rattle.object_layout.specs.Wholes.{Telling, header_at, height_of, IsWhole, Fills, IsRow}

-- the sum of what each object of a row gives, told its address and its header
abbrev pub sum_over : (ℕ → Header → ℕ) → ℕ → List Header → ℕ
sum_over f from [] = 0
sum_over f from (h ∷ rest) = f from h + sum_over f (from + (8 + 8 * h.count)) rest

-- the greatest of what each object gives, and 0 where there is none
abbrev pub greatest_over : (ℕ → Header → ℕ) → ℕ → List Header → ℕ
greatest_over f from [] = 0
greatest_over f from (h ∷ rest) = max (f from h) (greatest_over f (from + (8 + 8 * h.count)) rest)

abbrev pub is_proxy : Header → Bool
is_proxy h = h.kind == kind_number Proxy

-- 1 for a proxy
abbrev pub proxy_count : ℕ → Header → ℕ
proxy_count at h = if is_proxy h then 1 else 0

abbrev pub is_some_proxy : Option Header → Bool
is_some_proxy None = false
is_some_proxy (Some h) = is_proxy h

module _ (memory : Telling) where
  -- the header of the object whose address stands at an address
  abbrev pub header_behind : ℕ → Option Header
  header_behind at = option_and_then (header_at memory) (memory at)

  -- 1 for a proxy whose target is a proxy
  abbrev pub stacked_count : ℕ → Header → ℕ
  stacked_count at h = if is_proxy h && is_some_proxy (header_behind (at + 8)) then 1 else 0

  -- the height of a proxy's coercion
  abbrev pub proxy_height : ℕ → Header → ℕ
  proxy_height at h = if is_proxy h then height_of (header_behind (at + 8 + 8)) else 0

  -- the report of a row with these headers between two addresses
  abbrev pub report_of : ℕ → List Header → ℕ → SpaceReport
  report_of from headers to = record {
    bytes = to - from;
    objects = length headers;
    proxies = sum_over proxy_count from headers;
    stacked = sum_over stacked_count from headers;
    highest = greatest_over proxy_height from headers;
  }

  -- the range is a row in a region, of which this is the report
  abbrev pub IsReported : ℕ → ℕ → SpaceReport → Type 0
  IsReported from to report =
      (headers : List Header) × IsRow memory Region from headers to × (report ≡ report_of from headers to)

  -- whole objects fill the range up to an address before its end, where no whole object stands that ends in the range
  abbrev pub IsTornAt : ℕ → ℕ → WalkFault → Type 0
  IsTornAt from to (Torn at) =
      (headers : List Header) × Fills memory Region to from headers at × (at < to) ×
      ((h : Header) → ¬ IsWhole memory Region to at h)
