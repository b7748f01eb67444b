-- The next number of the input.
use Rattle.std.specs.Prelude.{ℕ, ℤ, ◌+◌, ◌==◌, ◌||◌, Bool, not, List, length, drop, Option, Some, None, option_and_then}
use Rattle.std.specs.List.{prefix_len, take_while}
use Rattle.grift_base.specs.Numbers.{in_word, number_of}
use Rattle.grift_base.specs.World.{WorldState}

-- space, tab, carriage return or line feed
abbrev pub is_white : ℕ → Bool
is_white byte = byte == 32 || byte == 9 || byte == 13 || byte == 10

-- how many white bytes stand first
abbrev pub white_first : List ℕ → ℕ
white_first bytes = prefix_len is_white bytes

-- the bytes up to the first white one
abbrev pub run_first : List ℕ → List ℕ
run_first bytes = take_while (λ byte. not (is_white byte)) bytes

-- the bytes that are not read yet, from the first that is not white
abbrev pub unread : WorldState → List ℕ
unread w = drop (white_first (drop w.place w.input)) (drop w.place w.input)

-- the number of 64 bits that stands next in the input, if one does
abbrev pub next_number : WorldState → Option ℤ
next_number w = option_and_then in_word (number_of (run_first (unread w)))

-- the white bytes are read
abbrev pub past_white : WorldState → WorldState
past_white w = record w { place = w.place + white_first (drop w.place w.input) }

-- the white bytes and the run behind them are read
abbrev pub past_run : WorldState → WorldState
past_run w = record w { place = w.place + white_first (drop w.place w.input) + length (run_first (unread w)) }

-- the outside after the number was asked for: past the run where it writes one, and else at its first byte
abbrev pub after_reading : Option ℤ → WorldState → WorldState
after_reading (Some n) w = past_run w
after_reading None w = past_white w
