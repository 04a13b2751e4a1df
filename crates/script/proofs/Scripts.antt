-- The scripts of the Rust's four transfers: their commands, and that an even device makes them accepted.
use Prim.Native.Nat.{ℕ, ◌%◌}
use mathlib.Core.Path.{◌≡◌, refl, ◌∙◌}
use mathlib.Core.Bool.{true, false}
use mathlib.Core.List.{List, [], ◌∷◌}
use native.Mathlib.Omega.{arith}
use lib.Bits.{bit_or, or_mod}
use lib.ListN.{length}
use Rattle.hardware.specs.Prog.{pick}
use Rattle.bus.specs.declared.command.Command.{Command}
use Rattle.bus.specs.declared.command.Command.TheVariants.{Start, Send, Read, Stop}
use Rattle.script.specs.Script.{alone, single, commands, complete, length_fits, judged, device}
use Rattle.script.specs.Grammar.{no_more, another, last, before, writing, reading, Script, last_phrase, phrase}
use Rattle.script.specs.Sum.{low, high, high_write, high_read, read_check, write_check}
use Rattle.script.specs.Scripts.{read_byte_script, write_byte_script, read_combined_script, write_combined_script}
use Rattle.script.proofs.Grammar.{script_accepted, device_address}

-- the address that reads
odd_address : (d : ℕ) → d % 2 ≡ 0 → bit_or d 1 % 2 ≡ 1
odd_address d h = or_mod d 1 1 ∙ rw h

pub even_device_lem : (s : List ℕ) (d : ℕ) (l : List Command) → commands s ≡ Start ∷ Send d ∷ l → d % 2 ≡ 0 → device s ≡ d
even_device_lem s d l e h = device_address s d l e ∙ omega arith

accepts : (s : List ℕ) → length_fits s ≡ true → complete s ≡ true → Script (commands s) → judged s ≡ 0
unfolding judged pick
accepts s f k g = rw (f, k, script_accepted s g)

pub read_byte_commands : (d o : ℕ) → commands (read_byte_script d o) ≡ Start ∷ Send d ∷ Send o ∷ Start ∷ Send (bit_or d 1) ∷ Read true ∷ Stop ∷ []
unfolding commands read_byte_script alone pick
read_byte_commands d o = refl

pub read_byte_accepted : (d o : ℕ) → d % 2 ≡ 0 → judged (read_byte_script d o) ≡ 0
unfolding read_byte_script length_fits complete single pick
read_byte_accepted d o h =
    accepts (read_byte_script d o) refl refl (rw read_byte_commands (phrase (writing h (another no_more)) (last_phrase (reading (odd_address d h) last))))

pub write_byte_commands : (d o v : ℕ) → commands (write_byte_script d o v) ≡ Start ∷ Send d ∷ Send o ∷ Send v ∷ Stop ∷ []
unfolding commands write_byte_script alone pick
write_byte_commands d o v = refl

pub write_byte_accepted : (d o v : ℕ) → d % 2 ≡ 0 → judged (write_byte_script d o v) ≡ 0
unfolding write_byte_script length_fits complete single pick
write_byte_accepted d o v h =
    accepts (write_byte_script d o v) refl refl (rw write_byte_commands (last_phrase (writing h (another (another no_more)))))

pub read_combined_commands : (d reg : ℕ) → commands (read_combined_script d reg)
    ≡ Start ∷ Send d ∷ Send (high_read reg) ∷ Send (low reg) ∷ Send (read_check reg) ∷ Start ∷ Send (bit_or d 1) ∷ Read false ∷ Read false ∷ Read true ∷ Stop ∷ []
unfolding commands read_combined_script alone pick
read_combined_commands d reg = refl

pub read_combined_accepted : (d reg : ℕ) → d % 2 ≡ 0 → judged (read_combined_script d reg) ≡ 0
unfolding read_combined_script length_fits complete single pick
read_combined_accepted d reg h =
    accepts (read_combined_script d reg) refl refl
    (rw read_combined_commands (phrase (writing h (another (another (another no_more)))) (last_phrase (reading (odd_address d h) (before (before last))))))

pub write_combined_commands : (d reg v : ℕ) → commands (write_combined_script d reg v)
    ≡ Start ∷ Send d ∷ Send (high_write reg) ∷ Send (low reg) ∷ Send (high v) ∷ Send (low v) ∷ Send (write_check reg v) ∷ Stop ∷ []
unfolding commands write_combined_script alone pick
write_combined_commands d reg v = refl

pub write_combined_accepted : (d reg v : ℕ) → d % 2 ≡ 0 → judged (write_combined_script d reg v) ≡ 0
unfolding write_combined_script length_fits complete single pick
write_combined_accepted d reg v h =
    accepts (write_combined_script d reg v) refl refl
    (rw write_combined_commands (last_phrase (writing h (another (another (another (another (another no_more))))))))

-- 10, 8, 16 and 14 bytes
pub lengths : (d o v reg w : ℕ) → (length (read_byte_script d o) ≡ 10) × (length (write_byte_script d o v) ≡ 8) × (length (read_combined_script d reg) ≡ 16) × (length (write_combined_script d reg w) ≡ 14)
unfolding read_byte_script write_byte_script read_combined_script write_combined_script
lengths d o v reg w = (refl, refl, refl, refl)
