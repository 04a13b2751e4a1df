-- What a block shows of what a call tells: an access goes with the state that awaits its answer, an end with the finished one,
-- and a refusal with the state as it was.
use Rattle.std.specs.Prelude.{ℕ, ◌+◌, ◌≡◌, refl, Ok, Err, None}
use Rattle.std.proofs.Common.{subst, sym}
use Rattle.hardware.specs.Numbers.{refusal_number}
use Rattle.hardware.specs.Prog.{blank}
use Rattle.flat.specs.declared.State.{State}
use Rattle.flat.specs.I2c.{flat_transfer_call, the_transfer_call, back_transfer_call, number_transfer_call}
use Rattle.flat.specs.I2c.{flat_setup_call, the_setup_call, back_setup_call, number_setup_call}
use Rattle.flat.specs.Identify.{flat_identify_call, the_identify_call, back_identify_call, number_identify_call}
use Rattle.flat.specs.Softrate.{flat_rate_call, the_rate_call, back_rate_call, number_rate_call}
use Rattle.flat.specs.Light.{flat_light_call, the_light_call, back_light_call, number_light_call}
use Rattle.flat.specs.Acquire.{flat_acquire_call, the_acquire_call, back_acquire_call, number_acquire_call}
use Rattle.flat.specs.Acquire.{flat_release_call, the_release_call, back_release_call, number_release_call}
use Rattle.flat.specs.Hostif.{flat_token_call, the_token_call, back_token_call, number_token_call}
use Rattle.flat.specs.Hostif.{flat_command_call, the_command_call, back_command_call, number_command_call}
use Rattle.flat.specs.Transfer.{flat_script_call, the_script_call, back_script_call, number_script_call}
use Rattle.flat.specs.Page.{flat_page_call, the_page_call, back_page_call, number_page_call}
use Rattle.host.specs.declared.Block.{Block}
use Rattle.host.specs.declared.Next.{Next}
use Rattle.host.specs.Next.{asked_of, refused_of, word_of, outcome_of, byte_of, flag_of, identified_of, paged_of, measured_of}
use Rattle.hostif.specs.Aliases.{CommandTold, TokenTold}
use Rattle.light.specs.Aliases.{LightTold}
use Rattle.acquire.specs.Aliases.{AcquireTold, ReleaseTold}
use Rattle.i2c.specs.Aliases.{TransferTold, SetupTold}
use Rattle.softrate.specs.Aliases.{RateTold}
use Rattle.identify.specs.Aliases.{IdentifyTold}
use Rattle.transfer.specs.Aliases.{ScriptTold}
use Rattle.page.specs.Aliases.{PageTold}
use Rattle.hardware.specs.declared.Told.TheVariants.{Ask, End}
use Rattle.transfer.specs.declared.calls.Said.TheVariants.{Ask as Asks, Read as Reads, End as Ends}

abbrev pub block_of : Next → State → Block
block_of next state = record { next = next; state = state }

unfoldable pub refused_block : ℕ → State → Block
refused_block number old = block_of (refused_of number) old

-- a telling that a call promises, and that the block shows it
unfoldable pub Shows : {T : Type 0} → (T → Type 0) → (State → T → Block → Type 0) → State → Block → Type 0
Shows {T} Tells Shown old b = (t : T) × Tells t × Shown old t b

-- what is next, and a state of the call by its number, which the next step reads as the one that was told
pub record Carries {S : Type 0} (number : ℕ) (the : State → S) (next : Next) (s : S) (b : Block) : Type 0 where
  pub shows : b.next ≡ next
  pub of : b.state.call ≡ number
  pub state : the b.state ≡ s

unfoldable pub over_transfer : State
over_transfer = flat_transfer_call None

unfoldable pub shown_transfer : State → TransferTold → Block
shown_transfer old (Ok (Ask x s)) = block_of (asked_of x 0) (flat_transfer_call s)
shown_transfer old (Ok (End (w, m))) = block_of (word_of w m) over_transfer
shown_transfer old (Err q) = refused_block (refusal_number q) old

unfoldable pub ShownTransfer : State → TransferTold → Block → Type 0
ShownTransfer old (Ok (Ask x s)) b = Carries 0 the_transfer_call (asked_of x 0) s b
ShownTransfer old (Ok (End (w, m))) b = Carries 0 the_transfer_call (word_of w m) None b
ShownTransfer old (Err q) b = b ≡ refused_block (refusal_number q) old

shown_transfer_shows : (old : State) (t : TransferTold) → ShownTransfer old t (shown_transfer old t)
unfolding shown_transfer ShownTransfer over_transfer
shown_transfer_shows old (Ok (Ask x s)) = record { shows = refl; of = number_transfer_call s; state = back_transfer_call s }
shown_transfer_shows old (Ok (End (w, m))) = record { shows = refl; of = number_transfer_call None; state = back_transfer_call None }
shown_transfer_shows old (Err q) = refl

pub shows_transfer : (old : State) (t : TransferTold) (b : Block) → b ≡ shown_transfer old t → ShownTransfer old t b
shows_transfer old t b e = subst (λ (c : Block). ShownTransfer old t c) (sym e) (shown_transfer_shows old t)

unfoldable pub over_setup : State
over_setup = flat_setup_call None

unfoldable pub shown_setup : State → SetupTold → Block
shown_setup old (Ok (Ask x s)) = block_of (asked_of x 0) (flat_setup_call s)
shown_setup old (Ok (End o)) = block_of (outcome_of o blank) over_setup
shown_setup old (Err q) = refused_block (refusal_number q) old

unfoldable pub ShownSetup : State → SetupTold → Block → Type 0
ShownSetup old (Ok (Ask x s)) b = Carries 1 the_setup_call (asked_of x 0) s b
ShownSetup old (Ok (End o)) b = Carries 1 the_setup_call (outcome_of o blank) None b
ShownSetup old (Err q) b = b ≡ refused_block (refusal_number q) old

shown_setup_shows : (old : State) (t : SetupTold) → ShownSetup old t (shown_setup old t)
unfolding shown_setup ShownSetup over_setup
shown_setup_shows old (Ok (Ask x s)) = record { shows = refl; of = number_setup_call s; state = back_setup_call s }
shown_setup_shows old (Ok (End o)) = record { shows = refl; of = number_setup_call None; state = back_setup_call None }
shown_setup_shows old (Err q) = refl

pub shows_setup : (old : State) (t : SetupTold) (b : Block) → b ≡ shown_setup old t → ShownSetup old t b
shows_setup old t b e = subst (λ (c : Block). ShownSetup old t c) (sym e) (shown_setup_shows old t)

unfoldable pub over_identify : State
over_identify = flat_identify_call None

unfoldable pub shown_identify : State → IdentifyTold → Block
shown_identify old (Ok (Ask x s)) = block_of (asked_of x 0) (flat_identify_call s)
shown_identify old (Ok (End (f, m))) = block_of (identified_of f m) over_identify
shown_identify old (Err q) = refused_block (refusal_number q) old

unfoldable pub ShownIdentify : State → IdentifyTold → Block → Type 0
ShownIdentify old (Ok (Ask x s)) b = Carries 2 the_identify_call (asked_of x 0) s b
ShownIdentify old (Ok (End (f, m))) b = Carries 2 the_identify_call (identified_of f m) None b
ShownIdentify old (Err q) b = b ≡ refused_block (refusal_number q) old

shown_identify_shows : (old : State) (t : IdentifyTold) → ShownIdentify old t (shown_identify old t)
unfolding shown_identify ShownIdentify over_identify
shown_identify_shows old (Ok (Ask x s)) = record { shows = refl; of = number_identify_call s; state = back_identify_call s }
shown_identify_shows old (Ok (End (f, m))) = record { shows = refl; of = number_identify_call None; state = back_identify_call None }
shown_identify_shows old (Err q) = refl

pub shows_identify : (old : State) (t : IdentifyTold) (b : Block) → b ≡ shown_identify old t → ShownIdentify old t b
shows_identify old t b e = subst (λ (c : Block). ShownIdentify old t c) (sym e) (shown_identify_shows old t)

unfoldable pub over_rate : State
over_rate = flat_rate_call None

unfoldable pub shown_rate : State → RateTold → Block
shown_rate old (Ok (Ask x s)) = block_of (asked_of x 0) (flat_rate_call s)
shown_rate old (Ok (End (f, m))) = block_of (flag_of f m) over_rate
shown_rate old (Err q) = refused_block (refusal_number q) old

unfoldable pub ShownRate : State → RateTold → Block → Type 0
ShownRate old (Ok (Ask x s)) b = Carries 3 the_rate_call (asked_of x 0) s b
ShownRate old (Ok (End (f, m))) b = Carries 3 the_rate_call (flag_of f m) None b
ShownRate old (Err q) b = b ≡ refused_block (refusal_number q) old

shown_rate_shows : (old : State) (t : RateTold) → ShownRate old t (shown_rate old t)
unfolding shown_rate ShownRate over_rate
shown_rate_shows old (Ok (Ask x s)) = record { shows = refl; of = number_rate_call s; state = back_rate_call s }
shown_rate_shows old (Ok (End (f, m))) = record { shows = refl; of = number_rate_call None; state = back_rate_call None }
shown_rate_shows old (Err q) = refl

pub shows_rate : (old : State) (t : RateTold) (b : Block) → b ≡ shown_rate old t → ShownRate old t b
shows_rate old t b e = subst (λ (c : Block). ShownRate old t c) (sym e) (shown_rate_shows old t)

unfoldable pub over_light : State
over_light = flat_light_call None

unfoldable pub shown_light : State → LightTold → Block
shown_light old (Ok (Ask x s)) = block_of (asked_of x 0) (flat_light_call s)
shown_light old (Ok (End (r, m))) = block_of (measured_of r m) over_light
shown_light old (Err q) = refused_block (refusal_number q) old

unfoldable pub ShownLight : State → LightTold → Block → Type 0
ShownLight old (Ok (Ask x s)) b = Carries 4 the_light_call (asked_of x 0) s b
ShownLight old (Ok (End (r, m))) b = Carries 4 the_light_call (measured_of r m) None b
ShownLight old (Err q) b = b ≡ refused_block (refusal_number q) old

shown_light_shows : (old : State) (t : LightTold) → ShownLight old t (shown_light old t)
unfolding shown_light ShownLight over_light
shown_light_shows old (Ok (Ask x s)) = record { shows = refl; of = number_light_call s; state = back_light_call s }
shown_light_shows old (Ok (End (r, m))) = record { shows = refl; of = number_light_call None; state = back_light_call None }
shown_light_shows old (Err q) = refl

pub shows_light : (old : State) (t : LightTold) (b : Block) → b ≡ shown_light old t → ShownLight old t b
shows_light old t b e = subst (λ (c : Block). ShownLight old t c) (sym e) (shown_light_shows old t)

unfoldable pub over_acquire : State
over_acquire = flat_acquire_call None

unfoldable pub shown_acquire : State → AcquireTold → Block
shown_acquire old (Ok (Ask x s)) = block_of (asked_of x 0) (flat_acquire_call s)
shown_acquire old (Ok (End o)) = block_of (outcome_of o blank) over_acquire
shown_acquire old (Err q) = refused_block (refusal_number q) old

unfoldable pub ShownAcquire : State → AcquireTold → Block → Type 0
ShownAcquire old (Ok (Ask x s)) b = Carries 5 the_acquire_call (asked_of x 0) s b
ShownAcquire old (Ok (End o)) b = Carries 5 the_acquire_call (outcome_of o blank) None b
ShownAcquire old (Err q) b = b ≡ refused_block (refusal_number q) old

shown_acquire_shows : (old : State) (t : AcquireTold) → ShownAcquire old t (shown_acquire old t)
unfolding shown_acquire ShownAcquire over_acquire
shown_acquire_shows old (Ok (Ask x s)) = record { shows = refl; of = number_acquire_call s; state = back_acquire_call s }
shown_acquire_shows old (Ok (End o)) = record { shows = refl; of = number_acquire_call None; state = back_acquire_call None }
shown_acquire_shows old (Err q) = refl

pub shows_acquire : (old : State) (t : AcquireTold) (b : Block) → b ≡ shown_acquire old t → ShownAcquire old t b
shows_acquire old t b e = subst (λ (c : Block). ShownAcquire old t c) (sym e) (shown_acquire_shows old t)

unfoldable pub over_release : State
over_release = flat_release_call None

unfoldable pub shown_release : State → ReleaseTold → Block
shown_release old (Ok (Ask x s)) = block_of (asked_of x 0) (flat_release_call s)
shown_release old (Ok (End o)) = block_of (outcome_of o blank) over_release
shown_release old (Err q) = refused_block (refusal_number q) old

unfoldable pub ShownRelease : State → ReleaseTold → Block → Type 0
ShownRelease old (Ok (Ask x s)) b = Carries 6 the_release_call (asked_of x 0) s b
ShownRelease old (Ok (End o)) b = Carries 6 the_release_call (outcome_of o blank) None b
ShownRelease old (Err q) b = b ≡ refused_block (refusal_number q) old

shown_release_shows : (old : State) (t : ReleaseTold) → ShownRelease old t (shown_release old t)
unfolding shown_release ShownRelease over_release
shown_release_shows old (Ok (Ask x s)) = record { shows = refl; of = number_release_call s; state = back_release_call s }
shown_release_shows old (Ok (End o)) = record { shows = refl; of = number_release_call None; state = back_release_call None }
shown_release_shows old (Err q) = refl

pub shows_release : (old : State) (t : ReleaseTold) (b : Block) → b ≡ shown_release old t → ShownRelease old t b
shows_release old t b e = subst (λ (c : Block). ShownRelease old t c) (sym e) (shown_release_shows old t)

unfoldable pub over_token : State
over_token = flat_token_call None

unfoldable pub shown_token : State → TokenTold → Block
shown_token old (Ok (Ask x s)) = block_of (asked_of x 0) (flat_token_call s)
shown_token old (Ok (End f)) = block_of (flag_of f blank) over_token
shown_token old (Err q) = refused_block (refusal_number q) old

unfoldable pub ShownToken : State → TokenTold → Block → Type 0
ShownToken old (Ok (Ask x s)) b = Carries 7 the_token_call (asked_of x 0) s b
ShownToken old (Ok (End f)) b = Carries 7 the_token_call (flag_of f blank) None b
ShownToken old (Err q) b = b ≡ refused_block (refusal_number q) old

shown_token_shows : (old : State) (t : TokenTold) → ShownToken old t (shown_token old t)
unfolding shown_token ShownToken over_token
shown_token_shows old (Ok (Ask x s)) = record { shows = refl; of = number_token_call s; state = back_token_call s }
shown_token_shows old (Ok (End f)) = record { shows = refl; of = number_token_call None; state = back_token_call None }
shown_token_shows old (Err q) = refl

pub shows_token : (old : State) (t : TokenTold) (b : Block) → b ≡ shown_token old t → ShownToken old t b
shows_token old t b e = subst (λ (c : Block). ShownToken old t c) (sym e) (shown_token_shows old t)

unfoldable pub over_command : State
over_command = flat_command_call None

unfoldable pub shown_command : State → CommandTold → Block
shown_command old (Ok (Ask x s)) = block_of (asked_of x 0) (flat_command_call s)
shown_command old (Ok (End b)) = block_of (byte_of b) over_command
shown_command old (Err q) = refused_block (refusal_number q) old

unfoldable pub ShownCommand : State → CommandTold → Block → Type 0
ShownCommand old (Ok (Ask x s)) b = Carries 8 the_command_call (asked_of x 0) s b
ShownCommand old (Ok (End v)) b = Carries 8 the_command_call (byte_of v) None b
ShownCommand old (Err q) b = b ≡ refused_block (refusal_number q) old

shown_command_shows : (old : State) (t : CommandTold) → ShownCommand old t (shown_command old t)
unfolding shown_command ShownCommand over_command
shown_command_shows old (Ok (Ask x s)) = record { shows = refl; of = number_command_call s; state = back_command_call s }
shown_command_shows old (Ok (End b)) = record { shows = refl; of = number_command_call None; state = back_command_call None }
shown_command_shows old (Err q) = refl

pub shows_command : (old : State) (t : CommandTold) (b : Block) → b ≡ shown_command old t → ShownCommand old t b
shows_command old t b e = subst (λ (c : Block). ShownCommand old t c) (sym e) (shown_command_shows old t)

unfoldable pub over_script : State
over_script = flat_script_call None

unfoldable pub shown_script : State → ScriptTold → Block
shown_script old (Ok (Asks x s)) = block_of (asked_of x 0) (flat_script_call s)
shown_script old (Ok (Reads b x s)) = block_of (asked_of x (256 + b)) (flat_script_call s)
shown_script old (Ok (Ends o m)) = block_of (outcome_of o m) over_script
shown_script old (Err q) = refused_block (refusal_number q) old

unfoldable pub ShownScript : State → ScriptTold → Block → Type 0
ShownScript old (Ok (Asks x s)) b = Carries 9 the_script_call (asked_of x 0) s b
ShownScript old (Ok (Reads v x s)) b = Carries 9 the_script_call (asked_of x (256 + v)) s b
ShownScript old (Ok (Ends o m)) b = Carries 9 the_script_call (outcome_of o m) None b
ShownScript old (Err q) b = b ≡ refused_block (refusal_number q) old

shown_script_shows : (old : State) (t : ScriptTold) → ShownScript old t (shown_script old t)
unfolding shown_script ShownScript over_script
shown_script_shows old (Ok (Asks x s)) = record { shows = refl; of = number_script_call s; state = back_script_call s }
shown_script_shows old (Ok (Reads b x s)) = record { shows = refl; of = number_script_call s; state = back_script_call s }
shown_script_shows old (Ok (Ends o m)) = record { shows = refl; of = number_script_call None; state = back_script_call None }
shown_script_shows old (Err q) = refl

pub shows_script : (old : State) (t : ScriptTold) (b : Block) → b ≡ shown_script old t → ShownScript old t b
shows_script old t b e = subst (λ (c : Block). ShownScript old t c) (sym e) (shown_script_shows old t)

unfoldable pub over_page : State
over_page = flat_page_call None

unfoldable pub shown_page : State → PageTold → Block
shown_page old (Ok (Ask x s)) = block_of (asked_of x 0) (flat_page_call s)
shown_page old (Ok (End (p, m))) = block_of (paged_of p m) over_page
shown_page old (Err q) = refused_block (refusal_number q) old

unfoldable pub ShownPage : State → PageTold → Block → Type 0
ShownPage old (Ok (Ask x s)) b = Carries 10 the_page_call (asked_of x 0) s b
ShownPage old (Ok (End (p, m))) b = Carries 10 the_page_call (paged_of p m) None b
ShownPage old (Err q) b = b ≡ refused_block (refusal_number q) old

shown_page_shows : (old : State) (t : PageTold) → ShownPage old t (shown_page old t)
unfolding shown_page ShownPage over_page
shown_page_shows old (Ok (Ask x s)) = record { shows = refl; of = number_page_call s; state = back_page_call s }
shown_page_shows old (Ok (End (p, m))) = record { shows = refl; of = number_page_call None; state = back_page_call None }
shown_page_shows old (Err q) = refl

pub shows_page : (old : State) (t : PageTold) (b : Block) → b ≡ shown_page old t → ShownPage old t b
shows_page old t b e = subst (λ (c : Block). ShownPage old t c) (sym e) (shown_page_shows old t)
