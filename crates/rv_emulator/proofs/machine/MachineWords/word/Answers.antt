use Rattle.std.proofs.Common.{ℕ, ◌+◌, ◌-◌, ◌%◌, ◌≤◌, ◌≡◌, true, Some, None, sym, ◌∙◌, ap, arith}
use Rattle.std.specs.Prelude.{◌==◌, ◌&&◌, nat_le, if◌then◌else◌}
use Rattle.machine_words.specs.Memory.{first_address, Memory, load_bytes, from_base}
use Rattle.rv_emulator.proofs.Based.{load_from_base}
use Rattle.rv_emulator.proofs.machine.MachineWords.word.Goals as goal

-- the tests pass, so the word is there
word_there : (at end word : ℕ) (m : Memory) → at % 8 ≡ 0 → first_address ≤ at → at + 8 ≤ end
    → word ≡ load_bytes 8 m (at - first_address)
    → Some word ≡ (if (at % 8 == 0) && (nat_le first_address at && nat_le (at + 8) end) then Some
    (load_bytes 8 (from_base m) at) else None)
word_there at end word m z above below e =
    let t : ((at % 8 == 0) && (nat_le first_address at && nat_le (at + 8) end)) ≡ true = grind arith in
    rw t (ap Some (e ∙ sym (load_from_base 8 m at above)))

pub returns : goal.returns
returns g c =
    rw (← c.self.view_is) (word_there c.args.at c.self.inside.processor.places.end c.load.result
    (g.R.Ram.memory c.self.inside.processor.ram) (omega arith) (omega arith) (omega arith) c.load.ensures.value)
