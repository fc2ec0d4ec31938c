-- The lines of a file, whose calls are made one after another.
use Rattle.std.proofs.Common.{◌≡◌, ◌≢◌, ◌⊎◌, inl, inr, ℕ, ◌+◌, ◌≤◌, List, [], ◌∷◌, ◌++◌, Option, None, length, take, refl, sym, ap, ◌∙◌, subst, append_assoc, append-nil, length-append, arith}
use Rattle.rapid_text.specs.Recording.{Recording}
use Rattle.inverse_log.specs.declared.entry.Entry.{Entry}
use Rattle.script_language.specs.Scripts.{script_line_reading}
use Rattle.kept_session.specs.Sessions.{log_by, log_of, log_behind, IsLogged, AreLogged}
use Rattle.kept_session.specs.Faults.{IsFirstRefused, IsLineFault, IsLinesFault, IsFileFault, IsHeadFault, IsTurnFault, IsOpenFault, IsMakeFault, IsWriteFault}
use Rattle.kept_session.specs.declared.fault.SessionFault.{SessionFault}
use Rattle.kept_session.specs.declared.fault.SessionFault.TheVariants.{Replay, LogLine, OtherTrace}
use Rattle.client_scripts.specs.declared.fault.ReadCause.TheVariants.{Device as DeviceFailed}
use Rattle.client_scripts.specs.declared.fault.ReplayFault.{ReplayFault}
use Rattle.client_scripts.specs.declared.fault.ReplayFault.TheVariants.{Read, Write, OutOfMemory as NoMemory}
use Rattle.kept_log.specs.declared.device.DeviceError.{DeviceError}
use Rattle.kept_log.specs.declared.device.DeviceError.TheVariants.{Memory, Failed, Shorter}
use Rattle.kept_log.specs.Log.{lines_behind}
use Rattle.kept_log.specs.declared.log.AppendError.{AppendError}
use Rattle.kept_log.specs.declared.log.AppendError.TheVariants.{OutOfMemory as NoRoom, Full, Device}
use Rattle.std.proofs.lemmas.List.{length-take-le}
use Rattle.kept_session.proofs.LogLemmas.{log_behind-append, AreLogged-append, logged_length}

module _ (T : Recording) (L : List Entry) (lines : List (List ℕ)) where
  -- the calls of some of the lines made M, and these are left
  pub record IsCatching (left : List (List ℕ)) (M : List Entry) : Type 0 where
    pub done : List (List ℕ)
    pub split : lines ≡ done ++ left
    pub logged : AreLogged T L done
    pub made : log_behind T L done ≡ M

  pub catching-start : IsCatching lines L
  catching-start = record { done = []; split = refl; logged = tt; made = refl }

  pub catching-more : (left more : List (List ℕ)) (line : List ℕ) (M N : List Entry) → IsCatching left M → left ≡ line ∷ more → IsLogged T M line → N ≡ log_by T M (script_line_reading line) → IsCatching more N
  catching-more left more line M N h is one next = record {
    done = h.done ++ line ∷ [];
    split = h.split ∙ ap (λ (ls : List (List ℕ)). h.done ++ ls) is ∙ sym (append_assoc h.done (line ∷ []) more);
    logged = AreLogged-append T L h.done (line ∷ []) h.logged (subst (λ X. AreLogged T X (line ∷ [])) (sym h.made) (one, tt));
    made = log_behind-append T L h.done (line ∷ []) ∙ ap (λ (X : List Entry). log_by T X (script_line_reading line)) h.made ∙ sym next;
  }

  pub catching-end : (left : List (List ℕ)) (M : List Entry) → IsCatching left M → left ≡ [] → AreLogged T L lines × (M ≡ log_behind T L lines)
  catching-end left M h is =
      let all : h.done ≡ lines = sym (h.split ∙ ap (λ (ls : List (List ℕ)). h.done ++ ls) is ∙ append-nil h.done) in (
        subst (λ ls. AreLogged T L ls) all h.logged,
        sym h.made ∙ ap (log_behind T L) all,
      )

  pub catching-refused : (left more : List (List ℕ)) (line : List ℕ) (M : List Entry) (number : ℕ) → IsCatching left M → left ≡ line ∷ more → ¬ IsLogged T M line → number ≡ length M + 2 → IsFirstRefused T L lines number
  catching-refused left more line M number h is refused place = record {
    before = h.done;
    line = line;
    behind = more;
    split = h.split ∙ ap (λ (ls : List (List ℕ)). h.done ++ ls) is;
    logged = h.logged;
    refused = subst (λ X. ¬ IsLogged T X line) (sym h.made) refused;
    place = omega (arith, place, ap length h.made, logged_length T L h.done h.logged);
  }

  -- the fault of a line that is refused is that of all lines
  pub catching-fault : (left more : List (List ℕ)) (line : List ℕ) (M : List Entry) (fault : SessionFault) → IsCatching left M → left ≡ line ∷ more → IsLineFault T M line fault → IsLinesFault T L lines fault
  catching-fault left more line M fault h is (inl memory) = inl memory
  catching-fault left more line M fault h is (inr refused) = inr (length M + 2, refused.0, catching-refused left more line M (length M + 2) h is refused.1 refl)

-- what is refused behind lines that were known is refused of all lines
pub refused_behind : (T : Recording) (known more lines : List (List ℕ)) (L : List Entry) (number : ℕ) → lines ≡ known ++ more → log_of T known ≡ L → AreLogged T [] known → IsFirstRefused T L more number
    → IsFirstRefused T [] lines number
refused_behind T known more lines L number is says all h = record {
  before = known ++ h.before;
  line = h.line;
  behind = h.behind;
  split = is ∙ ap (λ (ls : List (List ℕ)). known ++ ls) h.split ∙ sym (append_assoc known h.before (h.line ∷ h.behind));
  logged = AreLogged-append T [] known h.before all (subst (λ X. AreLogged T X h.before) (sym says) h.logged);
  refused = subst (λ X. ¬ IsLogged T X h.line) (sym (log_behind-append T [] known h.before ∙ ap (λ (X : List Entry). log_behind T X h.before) says)) h.refused;
  place = omega (arith, h.place, ap length says, logged_length T [] known all, length-append known h.before);
}

-- a fault of the lines behind those that were known is one of the turn
pub turn-lines : (T : Recording) (known more seen : List (List ℕ)) (before now : List (Option (List ℕ))) (L : List Entry) (fault : SessionFault) → seen ≡ known ++ more → log_of T known ≡ L → AreLogged T [] known → IsLinesFault T L more fault
    → IsTurnFault T known seen before now fault
turn-lines T known more seen before now L fault is says all (inl memory) = subst (IsTurnFault T known seen before now) (sym memory) tt
turn-lines T known more seen before now L fault is says all (inr (number, told, refused)) = subst (IsTurnFault T known seen before now) (sym told) (inl (refused_behind T known more seen L number is says all refused))

-- so is the number of the last known line, if the file was shorter
pub turn-last : (T : Recording) (known seen : List (List ℕ)) (before now : List (Option (List ℕ))) (L : List Entry) (number : ℕ) → log_of T known ≡ L → AreLogged T [] known → number ≡ length L + 1 → now ≡ None ∷ before
    → IsTurnFault T known seen before now (LogLine number)
turn-last T known seen before now L number says all is shorter = inr (omega (arith, is, ap length says, logged_length T [] known all), shorter)

-- and each that is no fault of a line
pub turn-memory : (T : Recording) (known seen : List (List ℕ)) (before now : List (Option (List ℕ))) (fault : SessionFault) → (fault ≡ Replay NoMemory) ⊎ (fault ≡ Replay Write) → IsTurnFault T known seen before now fault
turn-memory T known seen before now fault (inl memory) = subst (IsTurnFault T known seen before now) (sym memory) tt
turn-memory T known seen before now fault (inr write) = subst (IsTurnFault T known seen before now) (sym write) tt

-- what is told of a device that was not written
pub unwritten_fault : (why : DeviceError) (fault : SessionFault) → (why ≡ Memory → fault ≡ Replay NoMemory) → (why ≢ Memory → fault ≡ Replay Write) → (fault ≡ Replay NoMemory) ⊎ (fault ≡ Replay Write)
unwritten_fault Memory fault memory others = inl (memory refl)
unwritten_fault Failed fault memory others = inr (others (λ e. absurd cc))
unwritten_fault Shorter fault memory others = inr (others (λ e. absurd cc))

-- what is told of a device that was not read
pub unread_turn : (T : Recording) (known seen : List (List ℕ)) (before now : List (Option (List ℕ))) (L : List Entry) (last : ℕ) → log_of T known ≡ L → AreLogged T [] known → last ≡ length L + 1 → (why : DeviceError) → (why ≡ Shorter → now ≡ None ∷ before) → (fault : SessionFault)
    → (why ≡ Memory → fault ≡ Replay NoMemory) → (why ≡ Failed → fault ≡ Replay (Read 2 DeviceFailed)) → (why ≡ Shorter → fault ≡ LogLine last) → IsTurnFault T known seen before now fault
unread_turn T known seen before now L last says all is Memory short fault memory failed shorter = subst (IsTurnFault T known seen before now) (sym (memory refl)) tt
unread_turn T known seen before now L last says all is Failed short fault memory failed shorter = subst (IsTurnFault T known seen before now) (sym (failed refl)) (refl, refl)
unread_turn T known seen before now L last says all is Shorter short fault memory failed shorter =
    subst (IsTurnFault T known seen before now) (sym (shorter refl)) (turn-last T known seen before now L last says all is (short refl))

-- what is told of a file that was not read from its first byte on, and so is not too short
pub unread_file : (why : DeviceError) → why ≢ Shorter → (fault : SessionFault) → (why ≡ Memory → fault ≡ Replay NoMemory) → (why ≡ Failed → fault ≡ Replay (Read 2 DeviceFailed)) → (f : ReplayFault) × (fault ≡ Replay f) × IsFileFault f
unread_file Memory whole fault memory failed = (NoMemory, memory refl, tt)
unread_file Failed whole fault memory failed = (Read 2 DeviceFailed, failed refl, (refl, refl))
unread_file Shorter whole fault memory failed = absurd (whole refl)

-- a fault of the file is one of its head, of making it and of opening it
pub head-file : (head seen : List ℕ) (fault : SessionFault) → (f : ReplayFault) × (fault ≡ Replay f) × IsFileFault f → IsHeadFault head seen fault
head-file head seen fault (f, told, is) = subst (IsHeadFault head seen) (sym told) is

pub make-file : (fault : SessionFault) → (f : ReplayFault) × (fault ≡ Replay f) × IsFileFault f → IsMakeFault fault
make-file fault (f, told, is) = subst IsMakeFault (sym told) is

pub head-memory : (head seen : List ℕ) (fault : SessionFault) → (fault ≡ Replay NoMemory) ⊎ (fault ≡ Replay Write) → IsHeadFault head seen fault
head-memory head seen fault (inl memory) = subst (IsHeadFault head seen) (sym memory) tt
head-memory head seen fault (inr write) = subst (IsHeadFault head seen) (sym write) tt

pub make-memory : (fault : SessionFault) → (fault ≡ Replay NoMemory) ⊎ (fault ≡ Replay Write) → IsMakeFault fault
make-memory fault (inl memory) = subst IsMakeFault (sym memory) tt
make-memory fault (inr write) = subst IsMakeFault (sym write) tt

-- a fault of all lines of a file is one of opening it
pub open-lines : (T : Recording) (head seen : List ℕ) (lines : List (List ℕ)) (L : List Entry) (fault : SessionFault) → L ≡ [] → lines_behind (length head) seen ≡ lines → IsLinesFault T L lines fault → IsOpenFault T head seen fault
open-lines T head seen lines L fault new is (inl memory) = subst (IsOpenFault T head seen) (sym memory) tt
open-lines T head seen lines L fault new is (inr (number, told, refused)) = subst (IsOpenFault T head seen) (sym told) (subst (λ ls. IsFirstRefused T [] ls number) (sym is) (subst (λ X. IsFirstRefused T X lines number) new refused))

pub open-memory : (T : Recording) (head seen : List ℕ) (fault : SessionFault) → (fault ≡ Replay NoMemory) ⊎ (fault ≡ Replay Write) → IsOpenFault T head seen fault
open-memory T head seen fault (inl memory) = subst (IsOpenFault T head seen) (sym memory) tt
open-memory T head seen fault (inr write) = subst (IsOpenFault T head seen) (sym write) tt

-- so is one of its head
pub open-told : (T : Recording) (head seen : List ℕ) (fault : SessionFault) → IsHeadFault head seen fault → IsOpenFault T head seen fault
open-told T head seen (Replay fault) is = is
open-told T head seen (LogLine number) is = absurd is
open-told T head seen OtherTrace is = is

-- a log of this head begins its lines behind it
pub start_behind : (start : ℕ) (head seen : List ℕ) → start ≤ length seen → take start seen ≡ head → lines_behind (length head) seen ≡ lines_behind start seen
start_behind start head seen within is = ap (λ (n : ℕ). lines_behind n seen) (sym (ap length is) ∙ length-take-le start seen within)

-- a device that was not written, for no want of memory, has failed
pub failed_write : (why : DeviceError) → why ≢ Memory → why ≢ Shorter → why ≡ Failed
failed_write Memory memory shorter = absurd (memory refl)
failed_write Failed memory shorter = refl
failed_write Shorter memory shorter = absurd (shorter refl)

-- what is told of a block that was not added
pub block_fault : (why : AppendError) (fault : SessionFault) → IsWriteFault why fault → (fault ≡ Replay NoMemory) ⊎ (fault ≡ Replay Write)
block_fault NoRoom fault is = inl is
block_fault Full fault is = inr is
block_fault (Device why) fault is = unwritten_fault why fault is.0 is.1

pub block_written : (why : AppendError) (fault : SessionFault) (A B : Type 0) → IsWriteFault why fault → (why ≡ Device Failed → A) → why ≢ Device Shorter → (why ≡ Full → B) → fault ≡ Replay Write → A ⊎ B
block_written NoRoom fault A B is failed shorter full write = absurd (let e : Replay NoMemory ≡ Replay Write = sym is ∙ write in cc)
block_written Full fault A B is failed shorter full write = inr (full refl)
block_written (Device Memory) fault A B is failed shorter full write = absurd (let e : Replay NoMemory ≡ Replay Write = sym (is.0 refl) ∙ write in cc)
block_written (Device Failed) fault A B is failed shorter full write = inl (failed refl)
block_written (Device Shorter) fault A B is failed shorter full write = absurd (shorter refl)

pub block_unchanged : (why : AppendError) (fault : SessionFault) (A : Type 0) → IsWriteFault why fault → (why ≡ NoRoom → A) → (why ≡ Device Memory → A) → fault ≢ Replay Write → A
block_unchanged NoRoom fault A is room memory other = room refl
block_unchanged Full fault A is room memory other = absurd (other is)
block_unchanged (Device Memory) fault A is room memory other = memory refl
block_unchanged (Device Failed) fault A is room memory other = absurd (other (is.1 (λ e. absurd cc)))
block_unchanged (Device Shorter) fault A is room memory other = absurd (other (is.1 (λ e. absurd cc)))
