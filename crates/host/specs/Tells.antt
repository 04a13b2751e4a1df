-- What each call promises of what it tells.
use Rattle.std.specs.Prelude.{ℕ, ◌+◌, ◌≤◌, ◌≡◌, Bool, List}
use Rattle.hardware.specs.declared.Port.{Port}
use Rattle.hardware.specs.Asked.{Asked, yes, open_port}
use Rattle.hardware.specs.Lent.{Lent}
use Rattle.hardware.specs.Promise.{Keeps, Bounds, Stores}
use Rattle.hardware.specs.Prog.{Prog, R, Counted}
use Rattle.transfer.specs.declared.attempt.Sequence.{Sequence}
use Rattle.transfer.specs.Calls.{open_script, said_script, stands_script}
use Rattle.transfer.specs.Left.{COMMANDS_STEPS, script_left}
use Rattle.hostif.specs.Calls.{open_command, said_command, stands_command}
use Rattle.hostif.specs.Left.{opened_left, told_left}
use Rattle.page.specs.declared.walk.Form.{Form}
use Rattle.page.specs.Page.{Filled}
use Rattle.page.specs.Walk.{filled_from}
use Rattle.page.specs.Calls.{FilledAs, said_page, stands_page}
use Rattle.sfp.specs.declared.Identity.{Identity}
use Rattle.light.specs.declared.sensed.Measures.{Measures}
use Rattle.i2c.specs.Calls.{said_transfer, stands_transfer}
use Rattle.i2c.specs.Calls.{said_setup, stands_setup}
use Rattle.identify.specs.Calls.{said_identify, stands_identify}
use Rattle.softrate.specs.Calls.{said_rate, stands_rate}
use Rattle.light.specs.Calls.{said_light, stands_light}
use Rattle.acquire.specs.Calls.{said_acquire, stands_acquire}
use Rattle.acquire.specs.Calls.{said_release, stands_release}
use Rattle.hostif.specs.Calls.{said_token, stands_token}
use Rattle.hostif.specs.Aliases.{CommandTold, TokenTold}
use Rattle.light.specs.Aliases.{LightTold}
use Rattle.acquire.specs.Aliases.{AcquireTold, ReleaseTold}
use Rattle.i2c.specs.Aliases.{TransferTold, SetupTold}
use Rattle.softrate.specs.Aliases.{RateTold}
use Rattle.identify.specs.Aliases.{IdentifyTold}
use Rattle.transfer.specs.Aliases.{ScriptTold}
use Rattle.page.specs.Aliases.{PageTold}

abbrev pub TellsTransfer : Asked (Prog (Counted (R ℕ))) → TransferTold → Type 0
TellsTransfer p t = Keeps (said_transfer t ≡ p) (stands_transfer t)

abbrev pub TellsSetup : Asked (Prog (R (Unit {0}))) → SetupTold → Type 0
TellsSetup p t = Keeps (said_setup t ≡ p) (stands_setup t)

abbrev pub TellsIdentify : Asked (Prog (Counted (R Identity))) → IdentifyTold → Type 0
TellsIdentify p t = Keeps (said_identify t ≡ p) (stands_identify t)

abbrev pub TellsRate : Asked (Prog (Counted (R Bool))) → RateTold → Type 0
TellsRate p t = Keeps (said_rate t ≡ p) (stands_rate t)

abbrev pub TellsLight : Asked (Prog (Counted (R Measures))) → LightTold → Type 0
TellsLight p t = Keeps (said_light t ≡ p) (stands_light t)

abbrev pub TellsAcquire : Asked (Prog (R (Unit {0}))) → AcquireTold → Type 0
TellsAcquire p t = Keeps (said_acquire t ≡ p) (stands_acquire t)

abbrev pub TellsRelease : Asked (Prog (R (Unit {0}))) → ReleaseTold → Type 0
TellsRelease p t = Keeps (said_release t ≡ p) (stands_release t)

abbrev pub TellsToken : Asked (Prog (R Bool)) → TokenTold → Type 0
TellsToken p t = Keeps (said_token t ≡ p) (stands_token t)

abbrev pub TellsCommandOpen : ℕ → ℕ → ℕ → List ℕ → CommandTold → Type 0
TellsCommandOpen family device lan block t =
    Bounds (said_command t block ≡ open_command family device lan block) (stands_command t block) ((port : Port) → open_port family device lan ≡ yes port → told_left t ≤ opened_left port)

abbrev pub TellsScriptOpen : ℕ → ℕ → ℕ → List ℕ → ScriptTold → Type 0
TellsScriptOpen family device lan script t =
    Bounds (said_script t script ≡ open_script family device lan script) (stands_script t script) (script_left t ≤ 1 + COMMANDS_STEPS)

-- p: what the opening of the form says
abbrev pub TellsPageOpen : Lent (Counted Filled) → Sequence → ℕ → ℕ → ℕ → Form → ℕ → List ℕ → PageTold → Type 0
TellsPageOpen p q family device lan form attempts buffer t =
    Stores (said_page t buffer ≡ p) (stands_page t) ((port : Port) → open_port family device lan ≡ yes port → FilledAs t buffer (filled_from q port form attempts 96 buffer))
