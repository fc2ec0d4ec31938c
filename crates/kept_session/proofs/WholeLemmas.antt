-- What a crash leaves of a piece, and of a file that is opened.
use Rattle.std.proofs.Common.{◌≡◌, ◌⊎◌, inl, inr, ⊎_elim, ℕ, List, [], ◌∷◌, ◌++◌, Option, Some, Result, Ok, Err, length, take, drop, refl, sym, ap, ◌∙◌, subst, append-nil, ◌<◌, arith}
use Rattle.std.proofs.lemmas.List.{length-take-le}
use Rattle.std.specs.Result.{IfOk, IfErr}
use Rattle.rapid_text.specs.Recording.{Recording}
use Rattle.inverse_log.specs.declared.entry.Entry.{Entry}
use Rattle.std.specs.Prelude.{IsErr}
use Rattle.kept_log.specs.Device.{Elapses, AfterOthers, HasCause}
use Rattle.kept_log.specs.Moments.{LeavesOnly}
use Rattle.kept_log.specs.Lines.{kept_lines}
use Rattle.kept_log.specs.Log.{StandsFor, IsOldOrNew, BeginsWith, HasTurn, IsAtRest, IsTooMuch, head_of, lines_of, lines_behind}
use Rattle.kept_log.specs.declared.device.DeviceError.{DeviceError}
use Rattle.kept_log.specs.declared.device.DeviceError.TheVariants.{Failed}
use Rattle.kept_log.specs.declared.device.Device.{Ghosts}
use Rattle.kept_log.specs.declared.log.KeptLog.{KeptLog}
use Rattle.kept_log.proofs.MomentLemmas.{started, goes_on, then_on, weaker}
use Rattle.kept_session.proofs.FrontLemmas.{in_front, old_or_new_front}
use Rattle.kept_session.specs.Sessions.{AreGained, IsAllOrNone, IsUntaken, IsTaken, BeforeLock, KeepsLines, log_of}
use Rattle.kept_session.specs.Steps.{IsPut, PieceAnswered}
use Rattle.kept_session.specs.Views.{IsFailedBetween, IsTooLong}

module _ {D : Type 0} (disk : Ghosts D) where
  -- a log at rest stands for its lines
  pub rest_stands : (log : KeptLog D) → IsAtRest disk log → StandsFor (head_of disk log) (lines_of disk log) (disk.seen log.device)
  rest_stands log s =
      let size = length-take-le log.start (disk.seen log.device) s.start in
      record { front = ap (λ (n : ℕ). take n (disk.seen log.device)) size; counts = ap (λ (n : ℕ). kept_lines (drop n (disk.seen log.device))) size }

  -- and so does what a crash leaves of it
  pub rest_leaves : (log : KeptLog D) (P : List ℕ → Type 0) → IsAtRest disk log → ((c : List ℕ) → disk.left_since log.device (disk.moment log.device) c → disk.may_leave log.device c) → P (disk.seen log.device)
      → LeavesOnly disk log.device log.device P
  rest_leaves log P s only holds = started disk log.device P (λ c left. subst P (sym (s.durable c (only c left))) holds)

  pub rest_begins : (log : KeptLog D) → IsAtRest disk log → ((c : List ℕ) → disk.left_since log.device (disk.moment log.device) c → disk.may_leave log.device c)
      → LeavesOnly disk log.device log.device (BeginsWith (head_of disk log) (lines_of disk log))
  rest_begins log s only =
      rest_leaves log (BeginsWith (head_of disk log) (lines_of disk log)) s only ([], subst (λ ls. StandsFor (head_of disk log) ls (disk.seen log.device)) (sym (append-nil (lines_of disk log))) (rest_stands log s))

  -- nothing of a piece was put into the file
  pub put-nothing : (T : Recording) (client : Option ℕ) (first : ℕ) (raws : List (List ℕ)) (L : List Entry) (log : KeptLog D) → IsAtRest disk log
      → ((c : List ℕ) → disk.left_since log.device (disk.moment log.device) c → disk.may_leave log.device c) → IsPut disk T client first raws L log log []
  unfolding rest_stands rest_leaves
  put-nothing T client first raws L log s only = record {
    calls = inl refl;
    moments = rest_leaves log (IsOldOrNew (head_of disk log) (lines_of disk log) []) s only (inl (rest_stands log s));
    shown = inl (rest_stands log s);
  }

-- the calls of a piece were made, and its block was added or was not
pub put-block : {D : Type 0} (disk : Ghosts D) (T : Recording) (client : Option ℕ) (first : ℕ) (raws : List (List ℕ)) (L M : List Entry) (out_old out_new : List ℕ)
    (block_old block_new : List (List ℕ)) (old new : KeptLog D) → (h : PieceAnswered T client first raws L M out_old out_new block_old block_new) → block_old ≡ []
    → LeavesOnly disk old.device new.device (IsOldOrNew (head_of disk old) (lines_of disk old) block_new) → IsOldOrNew (head_of disk old) (lines_of disk old) block_new (disk.seen new.device)
    → IsPut disk T client first raws L old new h.lines
put-block disk T client first raws L M out_old out_new block_old block_new old new h none moments shown =
    let block : block_new ≡ h.lines = h.kept ∙ ap (λ (b : List (List ℕ)). b ++ h.lines) none in
    record {
      calls = inr (h.text, M, h.answered, h.gained, h.logged);
      moments = subst (λ b. LeavesOnly disk old.device new.device (IsOldOrNew (head_of disk old) (lines_of disk old) b)) block moments;
      shown = subst (λ b. IsOldOrNew (head_of disk old) (lines_of disk old) b (disk.seen new.device)) block shown;
    }

-- the calls of a piece were made, and the file would have been too long with its block
pub block_long : {D : Type 0} (disk : Ghosts D) (T : Recording) (client : Option ℕ) (first : ℕ) (raws : List (List ℕ)) (L M : List Entry) (out_old out_new : List ℕ)
    (block_old block_new : List (List ℕ)) (old new : KeptLog D) → (h : PieceAnswered T client first raws L M out_old out_new block_old block_new) → block_old ≡ []
    → log_of T (lines_of disk old) ≡ L → IsAtRest disk old → IsTooMuch old block_new → new ≡ old → IsTooLong disk T client first raws new
block_long disk T client first raws L M out_old out_new block_old block_new old new h none says rest long same =
    let block : block_new ≡ h.lines = h.kept ∙ ap (λ (b : List (List ℕ)). b ++ h.lines) none in
    let calls : AreGained T client first raws (log_of T (lines_of disk old)) h.lines = subst (λ X. AreGained T client first raws X h.lines) (sym says) (h.text, M, h.answered, h.gained, h.logged) in
    subst (IsTooLong disk T client first raws) (sym same) (h.lines, calls, subst (λ b. IsTooMuch old b) block long, rest)

-- a piece behind what others added was not written, and no call had failed before
pub turn-long : {D : Type 0} (disk : Ghosts D) (T N : Recording) (client : Option ℕ) (first : ℕ) (raws : List (List ℕ)) (old mid new : KeptLog D) → N ≡ T
    → disk.faults mid.device ≡ disk.faults old.device → IsFailedBetween disk mid new ⊎ IsTooLong disk N client first raws new → IsFailedBetween disk old new ⊎ IsTooLong disk T client first raws new
turn-long disk T N client first raws old mid new same sound (inl failed) = inl (omega (arith, failed, sound))
turn-long disk T N client first raws old mid new same sound (inr long) = inr (subst (λ t. IsTooLong disk t client first raws new) same long)

-- a lock that was not let go
pub failed_release : {A : Type 0} (before now : ℕ) (r : Result A DeviceError) → HasCause before now r → IfErr r (λ why. why ≡ Failed) → IsErr r → before < now
failed_release before now (Ok x) cause only err = absurd cc
failed_release before now (Err why) cause only err = cause.failed (ap Err only)

-- two facts of a success, or of a failure
pub if_ok_both : {A E : Type 0} (P Q R : A → Type 0) → ((a : A) → P a → Q a → R a) → (r : Result A E) → IfOk r P → IfOk r Q → IfOk r R
if_ok_both P Q R step (Ok a) p q = step a p q
if_ok_both P Q R step (Err e) p q = tt

pub if_err_both : {A E : Type 0} (P Q R : E → Type 0) → ((e : E) → P e → Q e → R e) → (r : Result A E) → IfErr r P → IfErr r Q → IfErr r R
if_err_both P Q R step (Ok a) p q = tt
if_err_both P Q R step (Err e) p q = step e p q

-- a file with a block or without it has its lines alone, or begins with both
abbrev pub IsOldOrMore : List ℕ → List (List ℕ) → List (List ℕ) → List ℕ → Type 0
IsOldOrMore head lines gained c = StandsFor head lines c ⊎ BeginsWith head (lines ++ gained) c

pub old_or_more : (head : List ℕ) (lines gained : List (List ℕ)) (c : List ℕ) → IsOldOrNew head lines gained c → IsOldOrMore head lines gained c
old_or_more head lines gained c (inl old) = inl old
old_or_more head lines gained c (inr new) = inr ([], subst (λ ls. StandsFor head ls c) (sym (append-nil (lines ++ gained))) new)

module _ {D : Type 0} (disk : Ghosts D)
    (T N : Recording) (client : Option ℕ) (first : ℕ) (raws : List (List ℕ)) (L : List Entry) (old mid made new : KeptLog D) (gained : List (List ℕ)) where
  -- a piece behind what others added, which was put or was not
  pub all_or_none : N ≡ T → log_of N (lines_of disk mid) ≡ L → IsAtRest disk mid → HasTurn disk old mid [] → LeavesOnly disk old.device mid.device (BeginsWith (head_of disk old) (lines_of disk old))
      → IsPut disk N client first raws L mid made gained → disk.seen new.device ≡ disk.seen made.device
      → LeavesOnly disk mid.device new.device (IsOldOrMore (head_of disk mid) (lines_of disk mid) gained)
      → IsAllOrNone disk T client first raws old new
  all_or_none same says rest turn until put shown since = record {
    mid = mid;
    gained = gained;
    calls = subst (λ t. (gained ≡ []) ⊎ AreGained t client first raws (log_of t (lines_of disk mid)) gained) same (subst (λ X. (gained ≡ []) ⊎ AreGained N client first raws X gained) (sym says) put.calls);
    at_rest = rest;
    turn = turn;
    until = until;
    since = since;
    shown = subst (IsOldOrNew (head_of disk mid) (lines_of disk mid) gained) (sym shown) put.shown;
  }

  -- what it leaves until its lock is let go
  pub put-since : IsPut disk N client first raws L mid made gained → LeavesOnly disk mid.device made.device (IsOldOrMore (head_of disk mid) (lines_of disk mid) gained)
  put-since put = weaker disk mid.device made.device _ _ put.moments (old_or_more (head_of disk mid) (lines_of disk mid) gained)

  -- and from then on
  pub put-released : IsPut disk N client first raws L mid made gained → head_of disk made ≡ head_of disk mid → lines_of disk made ≡ lines_of disk mid ++ gained
      → LeavesOnly disk made.device new.device (BeginsWith (head_of disk made) (lines_of disk made)) → LeavesOnly disk mid.device new.device (IsOldOrMore (head_of disk mid) (lines_of disk mid) gained)
  put-released put head lines released =
      then_on disk mid.device made.device new.device _ _ (IsOldOrMore (head_of disk mid) (lines_of disk mid) gained) put.moments released (old_or_more (head_of disk mid) (lines_of disk mid) gained)
      (λ c b. inr (subst (λ h. BeginsWith h (lines_of disk mid ++ gained) c) head (subst (λ ls. BeginsWith (head_of disk made) ls c) lines b)))

module _ {D : Type 0} (disk : Ghosts D) (old mid made : KeptLog D) (others gained : List (List ℕ)) (head : head_of disk mid ≡ head_of disk old) (lines : lines_of disk mid ≡ lines_of disk old ++ others) where
  behind_others : (c : List ℕ) → BeginsWith (head_of disk mid) (lines_of disk mid) c → BeginsWith (head_of disk old) (lines_of disk old) c
  behind_others c = in_front (head_of disk old) (head_of disk mid) (lines_of disk old) others (lines_of disk mid) c head lines

  -- a turn in which the lines of others were taken in, and then a piece was put or was not
  pub turn-put : LeavesOnly disk old.device mid.device (BeginsWith (head_of disk old) (lines_of disk old)) → LeavesOnly disk mid.device made.device (IsOldOrNew (head_of disk mid) (lines_of disk mid) gained)
      → LeavesOnly disk old.device made.device (BeginsWith (head_of disk old) (lines_of disk old))
  turn-put first second =
      then_on disk old.device mid.device made.device (BeginsWith (head_of disk old) (lines_of disk old)) (IsOldOrNew (head_of disk mid) (lines_of disk mid) gained) (BeginsWith (head_of disk old) (lines_of disk old))
      first second (λ c b. b) (λ c b. behind_others c (old_or_new_front (head_of disk mid) (lines_of disk mid) gained c b))

  -- and then its lock was let go
  pub turn-released : (new : KeptLog D) → LeavesOnly disk old.device made.device (BeginsWith (head_of disk old) (lines_of disk old)) → head_of disk made ≡ head_of disk mid → lines_of disk made ≡ lines_of disk mid ++ gained
      → LeavesOnly disk made.device new.device (BeginsWith (head_of disk made) (lines_of disk made)) → LeavesOnly disk old.device new.device (BeginsWith (head_of disk old) (lines_of disk old))
  turn-released new worked same more released =
      then_on disk old.device made.device new.device (BeginsWith (head_of disk old) (lines_of disk old)) (BeginsWith (head_of disk made) (lines_of disk made)) (BeginsWith (head_of disk old) (lines_of disk old))
      worked released (λ c b. b) (λ c b. behind_others c (in_front (head_of disk mid) (head_of disk made) (lines_of disk mid) gained (lines_of disk made) c same more b))

module _ {D : Type 0} (disk : Ghosts D) where
  -- the lock of a file is waited for
  pub waited : (old new : D) → ((c : List ℕ) → disk.left_since old (disk.moment old) c → disk.may_leave old c) → Elapses (disk.moment old) (disk.moment new) (disk.left_since old) (disk.left_since new) (AfterOthers 0 (disk.may_leave old))
      → LeavesOnly disk old new (BeforeLock disk old)
  waited old new only time = goes_on disk old old new (BeforeLock disk old) (AfterOthers 0 (disk.may_leave old)) (started disk old (BeforeLock disk old) (λ c left. inl (only c left))) time (λ c after. inr after)

  -- nothing is done before it is
  pub not_waited : (old : D) → ((c : List ℕ) → disk.left_since old (disk.moment old) c → disk.may_leave old c) → IsUntaken disk old old
  not_waited old only = record { none = refl; moments = started disk old (BeforeLock disk old) (λ c left. inl (only c left)) }

  -- it was taken, and nothing more was done
  pub taken-only : (P : List ℕ → List ℕ → Type 0) (old mid : D) → disk.found mid ≡ Some (disk.seen mid) ∷ disk.found old → LeavesOnly disk old mid (BeforeLock disk old)
      → ((c : List ℕ) → disk.left_since mid (disk.moment mid) c → disk.may_leave mid c) → IsTaken disk P old mid
  taken-only P old mid once until only = record { mid = mid; once = once; last = refl; until = until; since = started disk mid (λ c. disk.may_leave mid c ⊎ P (disk.seen mid) c) (λ c left. inl (only c left)) }

  -- it was taken, and then more was done
  pub taken-then : (P : List ℕ → List ℕ → Type 0) (old mid new : D) → disk.found mid ≡ Some (disk.seen mid) ∷ disk.found old → disk.found new ≡ disk.found mid → LeavesOnly disk old mid (BeforeLock disk old)
      → LeavesOnly disk mid new (λ c. disk.may_leave mid c ⊎ P (disk.seen mid) c) → IsTaken disk P old new
  taken-then P old mid new once last until since = record { mid = mid; once = once; last = last; until = until; since = since }

  found_same : (xs ys : List (Option (List ℕ))) (a b : List ℕ) → Some a ∷ xs ≡ Some b ∷ ys → a ≡ b
  found_same xs ys a b e = cc

  -- a file that was opened, and then its lines were made, and perhaps its lock let go
  pub taken-begun : (head file begins : List ℕ) (lines : List (List ℕ)) (old opened new : D) → IsTaken disk (λ f c. StandsFor head (lines_behind (length head) f) c) old opened
      → disk.found opened ≡ Some file ∷ disk.found old → begins ≡ head → lines ≡ lines_behind (length head) file → disk.found new ≡ disk.found opened → LeavesOnly disk opened new (BeginsWith begins lines)
      → IsTaken disk (KeepsLines head) old new
  taken-begun head file begins lines old opened new h once same is last more =
      let stood : disk.seen h.mid ≡ file = found_same (disk.found old) (disk.found old) (disk.seen h.mid) file (sym h.once ∙ sym h.last ∙ once) in
      let all : lines ≡ lines_behind (length head) (disk.seen h.mid) = is ∙ ap (lines_behind (length head)) (sym stood) in
      record {
        mid = h.mid;
        once = h.once;
        last = last ∙ h.last;
        until = h.until;
        since = then_on disk h.mid opened new _ _ (λ c. disk.may_leave h.mid c ⊎ KeepsLines head (disk.seen h.mid) c) h.since more
            (λ c left. ⊎_elim (λ now. inl now) (λ s. inr ([], subst (λ ls. StandsFor head ls c) (sym (append-nil (lines_behind (length head) (disk.seen h.mid)))) s)) left)
            (λ c b. inr (subst (λ x. BeginsWith x (lines_behind (length head) (disk.seen h.mid)) c) same (subst (λ ls. BeginsWith begins ls c) all b)));
      }

  -- a file whose head was refused, or which was opened in vain, has its lines
  pub taken-kept : (head : List ℕ) (old new : D) → IsTaken disk (λ f c. StandsFor head (lines_behind (length head) f) c) old new → IsTaken disk (KeepsLines head) old new
  taken-kept head old new h = record {
    mid = h.mid;
    once = h.once;
    last = h.last;
    until = h.until;
    since = weaker disk h.mid new _ _ h.since (λ c left. ⊎_elim (λ now. inl now) (λ s. inr ([], subst (λ ls. StandsFor head ls c) (sym (append-nil (lines_behind (length head) (disk.seen h.mid)))) s)) left);
  }
