-- What a script is: one or more phrases and then a stop.
use Rattle.std.specs.Prelude.{ℕ, ◌%◌, ◌≡◌, true, false, List, [], ◌∷◌, ◌++◌}
use Rattle.bus.specs.declared.command.Command.{Command}
use Rattle.bus.specs.declared.command.Command.TheVariants.{Start, Send, Read, Stop}

-- any number of further sends
pub data Sends : List Command → Type 0 where
  no_more : Sends []
  another : {b : ℕ} {l : List Command} → Sends l → Sends (Send b ∷ l)

-- any number of acknowledged reads and then one that is not
pub data Reads : List Command → Type 0 where
  last : Reads (Read true ∷ [])
  before : {l : List Command} → Reads l → Reads (Read false ∷ l)

-- a start, then an address; after an even one sends, after an odd one reads
pub data Phrase : List Command → Type 0 where
  writing : {a : ℕ} {l : List Command} → a % 2 ≡ 0 → Sends l → Phrase (Start ∷ Send a ∷ l)
  reading : {a : ℕ} {l : List Command} → a % 2 ≡ 1 → Reads l → Phrase (Start ∷ Send a ∷ l)

-- one or more phrases and then a stop
pub data Script : List Command → Type 0 where
  last_phrase : {p : List Command} → Phrase p → Script (p ++ Stop ∷ [])
  phrase : {p l : List Command} → Phrase p → Script l → Script (p ++ l)
