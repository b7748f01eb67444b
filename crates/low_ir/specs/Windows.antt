-- What is known of 64 words, as bits; of all others nothing is told, and they count as set.
use Rattle.std.specs.Prelude.{ℕ, zero, suc, ◌-◌, ◌^◌, ◌==◌, ◌&&◌, ◌||◌, not, nat_lt, nat_le, Bool, if◌then◌else◌}
use Rattle.std.specs.Prelude.{bit_and, bit_or}
use Rattle.std.specs.Int.{bit_at}
use Rattle.low_ir.specs.declared.closing.Window.{Window}
use Rattle.low_ir.specs.Closed.{Knowledge}

abbrev pub covers : ℕ → ℕ → Bool
covers from word = nat_le from word && nat_lt (word - from) 64

abbrev pub has : Window → ℕ → Bool
has w word = not (covers w.from word) || (bit_at w.set (word - w.from) == 1)

abbrev pub also : ℕ → Window → Window
also word w = if covers w.from word then record w { set = bit_or w.set (2 ^ (word - w.from)) } else w

abbrev pub both : Window → Window → Window
both w v = record { from = w.from; set = bit_and w.set v.set }

abbrev pub windows : Knowledge Window
windows = record { has = has; also = also; both = both }

-- also the first so many words are set
abbrev pub first_words : ℕ → Window → Window
first_words zero w = w
first_words (suc n) w = also n (first_words n w)

-- the window from a word on in which the first so many words are set
abbrev pub window_from : ℕ → ℕ → Window
window_from from params = first_words params (record { from = from; set = 0 })
