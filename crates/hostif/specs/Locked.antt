-- `command` with the calls that the Rust makes for its lock: `locked` over SW_MNG is `acquire` first, and then `release`
-- whether the command succeeded or failed.
use Rattle.std.specs.Prelude.{ℕ, List}
use Rattle.hardware.specs.declared.Port.{Port}
use Rattle.hardware.specs.Prog.{Prog, ret, R, Ok, Err, ◌>>=◌}
use Rattle.sync.specs.Regs.{SW_MNG}
use Rattle.hostif.specs.Hostif.{Left, request, respond, closed}
use Rattle.hostif.specs.Acquire.{acquire, release}

unfoldable pub released_call : Port → Left → Prog Left
released_call port left = release port SW_MNG >>= closed left.status left.block

unfoldable pub requested_call : Port → List ℕ → R ℕ → Prog Left
requested_call port block (Err e) = released_call port (record { status = Err e; block = block })
requested_call port block (Ok last) = respond last block >>= released_call port

unfoldable pub acquired_call : Port → List ℕ → R (Unit {0}) → Prog Left
acquired_call port block (Err e) = ret (record { status = Err e; block = block })
acquired_call port block (Ok u) = request block >>= requested_call port block

unfoldable pub locked_command : Port → List ℕ → Prog Left
locked_command port block = acquire port SW_MNG >>= acquired_call port block
