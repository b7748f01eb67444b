-- Registers by numbers: the real ones first, then one that stands for all real registers beyond them, which calls with
-- many words name, and then the virtual ones.
use Rattle.std.specs.Prelude.{ℕ, ◌+◌, ◌-◌, nat_lt, if◌then◌else◌, List, ◌++◌, option_to_list}
use Rattle.rv_select.specs.declared.code.VReg.{VReg}
use Rattle.rv_select.specs.declared.code.VReg.TheVariants.{Real, Virtual}
use Rattle.rv_select.specs.Holding.{handed_on}
use Rattle.reg_assign.specs.declared.named.Read.{Read}
use Rattle.reg_assign.specs.declared.named.Written.{Written}

abbrev pub number_of : VReg → ℕ
number_of (Real r) = r
number_of (Virtual v) = 33 + v

abbrev pub register_at : ℕ → VReg
register_at k = if nat_lt k 33 then Real k else Virtual (k - 33)

-- the registers that are read
abbrev pub all_read : Read → List VReg
all_read r = option_to_list r.first ++ (option_to_list r.second ++ handed_on 0 r.words)

-- and those that are written
abbrev pub all_written : Written → List VReg
all_written w = option_to_list w.first ++ option_to_list w.second
