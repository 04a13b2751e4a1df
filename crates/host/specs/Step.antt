-- What a step gives: by the number of the state's call the block shows what that call's step tells.
use Rattle.std.specs.Prelude.{ℕ, ◌≤◌, ◌-◌, ◌≡◌, Bool, true, false, List, ◌∷◌, eqb, Some, None, Option}
use Rattle.hardware.specs.declared.Answer.{Answer}
use Rattle.hardware.specs.declared.Answer.TheVariants.{Value, Done, Failed}
use Rattle.hardware.specs.Promise.{Bounds}
use Rattle.flat.specs.declared.State.{State}
use Rattle.flat.specs.Pick.{pick}
use Rattle.i2c.specs.Calls.{step_transfer}
use Rattle.flat.specs.I2c.{the_transfer_call}
use Rattle.i2c.specs.Calls.{step_setup}
use Rattle.flat.specs.I2c.{the_setup_call}
use Rattle.identify.specs.Calls.{step_identify}
use Rattle.flat.specs.Identify.{the_identify_call}
use Rattle.softrate.specs.Calls.{step_rate}
use Rattle.flat.specs.Softrate.{the_rate_call}
use Rattle.light.specs.Calls.{step_light}
use Rattle.flat.specs.Light.{the_light_call}
use Rattle.acquire.specs.Calls.{step_acquire}
use Rattle.flat.specs.Acquire.{the_acquire_call}
use Rattle.acquire.specs.Calls.{step_release}
use Rattle.flat.specs.Acquire.{the_release_call}
use Rattle.hostif.specs.Calls.{step_token}
use Rattle.flat.specs.Hostif.{the_token_call}
use Rattle.flat.specs.Hostif.{the_command_call}
use Rattle.flat.specs.Transfer.{the_script_call}
use Rattle.flat.specs.Page.{the_page_call}
use Rattle.hostif.specs.Calls.{said_command, stands_command, step_command}
use Rattle.hostif.specs.Left.{call_left as command_left, told_left}
use Rattle.transfer.specs.Calls.{said_script, stands_script, step_script}
use Rattle.transfer.specs.Left.{call_left, script_left}
use Rattle.page.specs.Walk.{Fills}
use Rattle.page.specs.Calls.{said_page, stands_page, step_page, buffer_after, FilledAs, filled_call}
use Rattle.host.specs.declared.Block.{Block}
use Rattle.host.specs.Shown.{Shows, refused_block, ShownTransfer, ShownSetup, ShownIdentify, ShownRate, ShownLight, ShownAcquire, ShownRelease, ShownToken, ShownCommand, ShownScript, ShownPage}
use Rattle.host.specs.Tells.{TellsTransfer, TellsSetup, TellsIdentify, TellsRate, TellsLight, TellsAcquire, TellsRelease, TellsToken}

-- an answer by numbers
unfoldable pub answered : ℕ → ℕ → (Option Answer)
answered kind value = pick (eqb kind 0) (Some (Value value)) (pick (eqb kind 1) (Some Done) (pick (eqb kind 2) (Some Failed) None))

-- 12: the kind is that of an answer
unfoldable pub AnsweredBy : (Option Answer) → (Answer → Block → Type 0) → State → Block → Type 0
AnsweredBy (Some a) Steps old b = Steps a b
AnsweredBy None Steps old b = b ≡ refused_block 12 old

-- the same where a buffer is lent: a refusal leaves it as it was
unfoldable pub LentBy : (Option Answer) → (Answer → Block → Type 0) → State → List ℕ → List ℕ → Block → Type 0
LentBy (Some a) Steps old before after b = Steps a b
LentBy None Steps old before after b = (b ≡ refused_block 12 old) × (after ≡ before)

abbrev pub choose : Bool → Type 0 → Type 0 → Type 0
choose true A B = A
choose false A B = B

unfoldable pub SteppedTransfer : State → Answer → Block → Type 0
SteppedTransfer old a b = Shows (TellsTransfer (step_transfer (the_transfer_call old) a)) ShownTransfer old b

unfoldable pub SteppedSetup : State → Answer → Block → Type 0
SteppedSetup old a b = Shows (TellsSetup (step_setup (the_setup_call old) a)) ShownSetup old b

unfoldable pub SteppedIdentify : State → Answer → Block → Type 0
SteppedIdentify old a b = Shows (TellsIdentify (step_identify (the_identify_call old) a)) ShownIdentify old b

unfoldable pub SteppedRate : State → Answer → Block → Type 0
SteppedRate old a b = Shows (TellsRate (step_rate (the_rate_call old) a)) ShownRate old b

unfoldable pub SteppedLight : State → Answer → Block → Type 0
SteppedLight old a b = Shows (TellsLight (step_light (the_light_call old) a)) ShownLight old b

unfoldable pub SteppedAcquire : State → Answer → Block → Type 0
SteppedAcquire old a b = Shows (TellsAcquire (step_acquire (the_acquire_call old) a)) ShownAcquire old b

unfoldable pub SteppedRelease : State → Answer → Block → Type 0
SteppedRelease old a b = Shows (TellsRelease (step_release (the_release_call old) a)) ShownRelease old b

unfoldable pub SteppedToken : State → Answer → Block → Type 0
SteppedToken old a b = Shows (TellsToken (step_token (the_token_call old) a)) ShownToken old b

-- 10: the state is of a call that is lent nothing
unfoldable pub SteppedAs : ℕ → State → Answer → Block → Type 0
SteppedAs call old a b =
    choose (eqb call 0) (SteppedTransfer old a b)
    (choose (eqb call 1) (SteppedSetup old a b)
    (choose (eqb call 2) (SteppedIdentify old a b)
    (choose (eqb call 3) (SteppedRate old a b)
    (choose (eqb call 4) (SteppedLight old a b)
    (choose (eqb call 5) (SteppedAcquire old a b)
    (choose (eqb call 6) (SteppedRelease old a b)
    (choose (eqb call 7) (SteppedToken old a b)
    (b ≡ refused_block 10 old))))))))

unfoldable pub Stepped : State → Answer → Block → Type 0
Stepped old a b = SteppedAs old.call old a b

-- 10: it is of a call that is lent this; the block, the script or the buffer is what it is then
unfoldable pub CommandStepped : State → List ℕ → List ℕ → Answer → Block → Type 0
CommandStepped old before after a b =
    choose (eqb old.call 8) (Shows (λ t. Bounds (said_command t after ≡ step_command (the_command_call old) before a) (stands_command t after) (told_left t ≤ command_left (the_command_call old) - 1)) ShownCommand old b)
    ((b ≡ refused_block 10 old) × (after ≡ before))

unfoldable pub ScriptStepped : State → List ℕ → Answer → Block → Type 0
ScriptStepped old script a b =
    choose (eqb old.call 9) (Shows (λ t. Bounds (said_script t script ≡ step_script (the_script_call old) script a) (stands_script t script) (script_left t ≤ call_left (the_script_call old) - 1)) ShownScript old b)
    (b ≡ refused_block 10 old)

unfoldable pub PageStepped : State → List ℕ → List ℕ → Answer → Block → Type 0
PageStepped old before after a b =
    choose (eqb old.call 10) (Shows (λ t. Fills (said_page t after ≡ step_page (the_page_call old) before a) (stands_page t) (after ≡ buffer_after (the_page_call old) before a) (FilledAs t after (λ l. filled_call (the_page_call old) before (a ∷ l)))) ShownPage old b)
    ((b ≡ refused_block 10 old) × (after ≡ before))
