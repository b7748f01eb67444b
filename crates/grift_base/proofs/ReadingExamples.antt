-- What stands next in small inputs, and the place after it.
use Rattle.std.proofs.Common.{◌≡◌, ℕ, pos, negsuc, List, [], Some, None, refl}
use Rattle.std.specs.Prelude.{codes}
use Rattle.grift_base.specs.World.{WorldState}
use Rattle.grift_base.specs.Reading.{next_number, past_white, past_run}

abbrev at : ℕ → List ℕ → WorldState
at place input = record { output = []; input = input; place = place }

plain_number : next_number (at 0 (codes "42")) ≡ Some (pos 42)
plain_number = refl

number_behind_white_bytes : next_number (at 0 (codes " \t\r\n+7 8")) ≡ Some (pos 7)
number_behind_white_bytes = refl

place_behind_number : (past_run (at 0 (codes " \t\r\n+7 8"))).place ≡ 6
place_behind_number = refl

second_number : next_number (at 6 (codes " \t\r\n+7 -8")) ≡ Some (negsuc 7)
second_number = refl

no_sign_alone : next_number (at 0 (codes " - 1")) ≡ None
no_sign_alone = refl

place_at_no_number : (past_white (at 0 (codes " - 1"))).place ≡ 1
place_at_no_number = refl

no_number_in_word : next_number (at 0 (codes "12x")) ≡ None
no_number_in_word = refl

nothing_left : next_number (at 2 (codes "5 ")) ≡ None
nothing_left = refl

least_number : next_number (at 0 (codes "-9223372036854775808")) ≡ Some (negsuc 9223372036854775807)
least_number = refl

past_greatest : next_number (at 0 (codes "9223372036854775808")) ≡ None
past_greatest = refl

leading_zeros : next_number (at 0 (codes "-00000000000000000000012")) ≡ Some (negsuc 11)
leading_zeros = refl
