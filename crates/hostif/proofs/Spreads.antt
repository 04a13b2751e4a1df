-- What spreads (`hardware/proofs/Spreads.antt`) holds of a firmware command's request and response as well.
use Prim.Native.Nat.{ℕ, ◌+◌, ◌*◌, suc, zero}
use mathlib.Core.List.{List, [], ◌∷◌}
use Rattle.hardware.specs.declared.Access.{Access}
use Rattle.hardware.specs.Prog.{Prog, R, Ok, Err}
use Rattle.hardware.proofs.Spreads.{Spreads, Open, Passes, try_holds, pick_holds, one_holds, change_holds, poll_holds}
use Rattle.hostif.specs.Hostif.{HICR, FLEX_MNG, POLLS, Left, words, completed, polling, start, enabled, hicr_read, request, word_seen, fill, head_seen, respond}

-- the registers of the firmware's interface
pub record Firmware (May : Access → Type 0) : Type 0 where
  pub passes : Passes May
  pub fwsts : Open May 0x15f0c
  pub hicr : Open May HICR
  pub words : (at : ℕ) → Open May (FLEX_MNG + 4 * at)

module _ (P : (A : Type 0) → Prog A → Type 0) (May : Access → Type 0) (s : Spreads P May) (o : Firmware May) where
  words_hold : (at : ℕ) (l : List ℕ) (k : Prog (R ℕ)) → P (R ℕ) k → P (R ℕ) (words at l k)
  unfolding words
  words_hold at [] k e = e
  words_hold at (v ∷ l) k e = try_holds P May s _ _ (one_holds P May s _ _ ((o.words at).writes v)) (λ _. words_hold (at + 1) l k e)

  completed_holds : (last : ℕ) → P (R ℕ) (completed last)
  unfolding completed
  completed_holds last = pick_holds P May s _ _ _ (pick_holds P May s _ _ _ (s.ends _ _) (s.ends _ _)) (s.ends _ _)

  start_holds : (hicr : ℕ) → P (R ℕ) (start hicr)
  unfolding start polling
  start_holds hicr =
      try_holds P May s _ _ (one_holds P May s _ _ (o.hicr.writes _))
      (λ _. try_holds P May s _ _ (poll_holds P May s o.passes _ POLLS _ o.hicr.reads) (λ last. completed_holds last))

  pub request_holds : (block : List ℕ) → P (R ℕ) (request block)
  unfolding request hicr_read enabled
  request_holds block =
      try_holds P May s _ _ (change_holds P May s o.passes _ o.fwsts)
      (λ _. try_holds P May s _ _ (one_holds P May s _ _ o.hicr.reads)
      (λ hicr. pick_holds P May s _ _ _ (s.ends _ _) (words_hold 0 block _ (start_holds hicr))))

  word_holds : (again : List ℕ → Prog Left) (at : ℕ) (block : List ℕ) → ((l : List ℕ) → P Left (again l)) → (r : R ℕ) → P Left (word_seen again at block r)
  unfolding word_seen
  word_holds again at block d (Ok v) = d _
  word_holds again at block d (Err e) = s.ends _ _

  fill_holds : (head n : ℕ) (block : List ℕ) → P Left (fill head n block)
  unfolding fill
  fill_holds head zero block = s.ends _ _
  fill_holds head (suc n) block =
      s.binds _ _ _ _ (one_holds P May s _ _ (o.words _).reads) (λ r. word_holds (fill head n) _ block (fill_holds head n) r)

  head_holds : (last : ℕ) (block : List ℕ) (r : R ℕ) → P Left (head_seen last block r)
  unfolding head_seen
  head_holds last block (Ok head) = pick_holds P May s _ _ _ (s.ends _ _) (fill_holds head _ _)
  head_holds last block (Err e) = s.ends _ _

  pub respond_holds : (last : ℕ) (block : List ℕ) → P Left (respond last block)
  unfolding respond
  respond_holds last block = s.binds _ _ _ _ (one_holds P May s _ _ (o.words 0).reads) (λ r. head_holds last block r)
