-- The number and values that a case of the code's enum tells are the papers' for it.
use Prim.Native.Nat.{ℕ}
use mathlib.Core.Path.{◌≡◌, refl}
use Rattle.hardware.specs.declared.Error.TheVariants.{Io as CaseIo, Removed as CaseRemoved, Semaphore as CaseSemaphore, I2c as CaseI2c, HostInterface as CaseHostInterface, Firmware as CaseFirmware}
use Rattle.hardware.specs.Failures.{Io, Removed, Semaphore, I2c, HostInterface, Firmware, failure_of}

pub io_told : failure_of CaseIo ≡ Io
unfolding failure_of
io_told = refl

pub removed_told : failure_of CaseRemoved ≡ Removed
unfolding failure_of
removed_told = refl

pub semaphore_told : (held : ℕ) → failure_of (CaseSemaphore held) ≡ Semaphore held
unfolding failure_of
semaphore_told held = refl

pub i2c_told : (device : ℕ) → failure_of (CaseI2c device) ≡ I2c device
unfolding failure_of
i2c_told device = refl

pub host_interface_told : (hicr : ℕ) → failure_of (CaseHostInterface hicr) ≡ HostInterface hicr
unfolding failure_of
host_interface_told hicr = refl

pub firmware_told : (command status : ℕ) → failure_of (CaseFirmware command status) ≡ Firmware command status
unfolding failure_of
firmware_told command status = refl
