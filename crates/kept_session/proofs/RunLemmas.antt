-- How the turns of a session go on.
use Rattle.std.proofs.Common.{◌≡◌, ◌≢◌, ◌⊎◌, inl, inr, ⊎_elim, ℕ, ◌+◌, ◌<◌, ◌≤◌, Bool, true, false, List, [], ◌∷◌, ◌++◌, Option, Some, None, length, take, refl, sym, ap, ◌∙◌, subst, append_assoc, append-nil, length-append, arith}
use Rattle.std.specs.List.{slice_split}
use Rattle.std.specs.Io.KnownBytes.{Appends, Consumes, Keeps}
use Rattle.std.proofs.lemmas.List.Elements.{All-nil}
use Rattle.std.proofs.lemmas.List.Splits.{slice_split_none}
use Rattle.rapid_text.specs.Recording.{Recording}
use Rattle.rapid_text.specs.Reading.{is_line_feed}
use Rattle.inverse_log.specs.declared.entry.Entry.{Entry}
use Rattle.client_scripts.proofs.KnownBytesLemmas.{Appends-then, Consumes-then}
use Rattle.client_scripts.proofs.RunLemmas.{Appends-nothing}
use Rattle.kept_session.proofs.SplitLemmas.{split-feed, split-more, last_short}
use Rattle.client_scripts.specs.Replay.{IsUnreadable}
use Rattle.client_scripts.specs.declared.fault.ReadCause.{ReadCause}
use Rattle.client_scripts.specs.declared.fault.ReadCause.TheVariants.{TooLong, Device as DeviceFailed}
use Rattle.client_scripts.specs.declared.fault.ReplayFault.TheVariants.{Read, Write, OutOfMemory as NoMemory}
use Rattle.kept_log.specs.Log.{IsAsFound, LosesNone, head_of, lines_of, lines_behind}
use Rattle.kept_log.specs.Lines.{IsLine}
use Rattle.kept_log.specs.declared.device.Device.{Ghosts}
use Rattle.kept_log.specs.declared.log.KeptLog.{KeptLog}
use Rattle.kept_session.specs.Faults.{IsTurnFault}
use Rattle.kept_session.specs.Runs.{IsLogTurn, AreTurns, no_turn, one_more, IsRun, IsFinished, IsUnanswered, IsUnwritten, IsHalted}
use Rattle.kept_session.specs.Sessions.{IsAllOrNone, IsTurn, log_of, number_after, number_behind}
use Rattle.kept_session.specs.Steps.{IsKeepFault, IsTakenIn, IsUnderway}
use Rattle.kept_session.specs.Views.{IsFailedBetween, IsTooLong}
use Rattle.kept_session.specs.declared.fault.SessionFault.{SessionFault}
use Rattle.kept_session.specs.declared.fault.SessionFault.TheVariants.{Replay}

pub number_behind-append : (n : ℕ) (xs ys : List (List ℕ)) → number_behind n (xs ++ ys) ≡ number_behind (number_behind n xs) ys
number_behind-append n [] ys = refl
number_behind-append n (x ∷ xs) ys = number_behind-append (number_after n) xs ys

-- a fault of the lines' own input, or want of memory
abbrev pub IsInputFault : List ℕ → SessionFault → Type 0
IsInputFault bytes fault = (fault ≡ Replay NoMemory) ⊎ ((why : ReadCause) × (fault ≡ Replay (Read 3 why)) × IsUnreadable bytes why)

-- tells nothing of the file
input_told : (T : Recording) (known seen : List (List ℕ)) (before now : List (Option (List ℕ))) (bytes : List ℕ) (fault : SessionFault) → IsInputFault bytes fault → IsTurnFault T known seen before now fault ⊎ ((why : ReadCause) × (fault ≡ Replay (Read 3 why)))
input_told T known seen before now bytes fault (inl memory) = inl (subst (IsTurnFault T known seen before now) (sym memory) tt)
input_told T known seen before now bytes fault (inr (why, unread, is)) = inr (why, unread)

-- and is no failed call of it
input_not_write : (bytes : List ℕ) (fault : SessionFault) → IsInputFault bytes fault → fault ≢ Replay Write
input_not_write bytes fault (inl memory) is = absurd (let e : Replay NoMemory ≡ Replay Write = sym memory ∙ is in cc)
input_not_write bytes fault (inr (why, unread, told)) is = absurd (let e : Replay (Read 3 why) ≡ Replay Write = sym unread ∙ is in cc)

input_not_log : (bytes : List ℕ) (fault : SessionFault) → IsInputFault bytes fault → fault ≢ Replay (Read 2 DeviceFailed)
input_not_log bytes fault (inl memory) is = absurd (let e : Replay NoMemory ≡ Replay (Read 2 DeviceFailed) = sym memory ∙ is in cc)
input_not_log bytes fault (inr (why, unread, told)) is = absurd (let e : Replay (Read 3 why) ≡ Replay (Read 2 DeviceFailed) = sym unread ∙ is in cc)

-- and tells why these bytes were not read on
input_unread : (bytes : List ℕ) (fault : SessionFault) → IsInputFault bytes fault → (why : ReadCause) → fault ≡ Replay (Read 3 why) → IsUnreadable bytes why
input_unread bytes fault (inl memory) why is = absurd (let e : Replay NoMemory ≡ Replay (Read 3 why) = sym memory ∙ is in cc)
input_unread bytes fault (inr (cause, unread, told)) why is = let same : cause ≡ why = cc in subst (IsUnreadable bytes) same told

-- more bytes are no fewer
pub unreadable_more : (few many : List ℕ) (why : ReadCause) → length few ≤ length many → IsUnreadable few why → IsUnreadable many why
unreadable_more few many DeviceFailed more is = tt
unreadable_more few many TooLong more is = omega (arith, more, is)

-- bytes that were not kept
pub keep_fault : (few many : List ℕ) (fault : SessionFault) → length few ≤ length many → IsKeepFault few fault → IsInputFault many fault
keep_fault few many fault more (inl memory) = inl memory
keep_fault few many fault more (inr (unread, is)) = inr (TooLong, unread, unreadable_more few many TooLong more is)

pub keep_other : (bytes : List ℕ) (fault : SessionFault) → IsKeepFault bytes fault → fault ≢ Replay (Read 3 DeviceFailed)
keep_other bytes fault (inl memory) is = absurd (let e : Replay NoMemory ≡ Replay (Read 3 DeviceFailed) = sym memory ∙ is in cc)
keep_other bytes fault (inr (unread, long)) is = absurd (let e : Replay (Read 3 TooLong) ≡ Replay (Read 3 DeviceFailed) = sym unread ∙ is in cc)

-- nothing is read
pub Consumes-nothing : (known : Option (List ℕ)) → Consumes known known []
Consumes-nothing None = tt
Consumes-nothing (Some xs) = refl

pub Keeps-same : (known : Option (List ℕ)) → Keeps known known
Keeps-same None = tt
Keeps-same (Some xs) = refl

-- nothing more is read
pub Consumes-keeps : (a b c : Option (List ℕ)) (xs : List ℕ) → Consumes a b xs → Keeps b c → Consumes a c xs
Consumes-keeps None b c xs p q = tt
Consumes-keeps (Some a) None c xs p q = absurd p
Consumes-keeps (Some a) (Some b) None xs p q = absurd q
Consumes-keeps (Some a) (Some b) (Some c) xs p q = p ∙ ap (λ (s : List ℕ). xs ++ s) (sym q)

module _ {D : Type 0} (disk : Ghosts D) (T : Recording) (client : Option ℕ) where
  -- turns, and then further ones
  pub turns-then : (n : ℕ) (old mid : KeptLog D) (xs : List (List ℕ)) (t : List ℕ) (ys : List (List ℕ)) (u : List ℕ) (new : KeptLog D)
      → AreTurns disk T client n old xs t mid → AreTurns disk T client (number_behind n xs) mid ys u new → AreTurns disk T client n old (xs ++ ys) (t ++ u) new
  turns-then n old mid xs t _ _ _ first no_turn =
      subst (λ ls. AreTurns disk T client n old ls (t ++ []) mid) (sym (append-nil xs)) (subst (λ s. AreTurns disk T client n old xs s mid) (sym (append-nil t)) first)
  turns-then n old mid xs t _ _ _ first (one_more raws more text answers log new turns turn) =
      let behind : IsLogTurn disk T client (number_behind n (xs ++ raws)) more log new answers =
      subst (λ k. IsLogTurn disk T client k more log new answers) (sym (number_behind-append n xs raws)) turn in
      let all : AreTurns disk T client n old ((xs ++ raws) ++ more) ((t ++ text) ++ answers) new =
      one_more (xs ++ raws) more (t ++ text) answers log new (turns-then n old mid xs t raws text log first turns) behind in
      subst (λ ls. AreTurns disk T client n old ls (t ++ (text ++ answers)) new) (append_assoc xs raws more)
      (subst (λ s. AreTurns disk T client n old ((xs ++ raws) ++ more) s new) (append_assoc t text answers) all)

  -- a turn of a session whose bench has the log that its file stands for
  pub log_turn : (N : Recording) (n : ℕ) (piece bytes : List ℕ) (old new : KeptLog D) (L : List Entry) (out answers : List ℕ)
      → N ≡ T → piece ≡ bytes → out ≡ [] → log_of N (lines_of disk new) ≡ L → head_of disk new ≡ head_of disk old
      → (file : List ℕ) × (disk.found new.device ≡ Some file ∷ disk.found old.device)
      × IsTurn T client n (slice_split is_line_feed piece) (lines_of disk old) (lines_behind new.start file) (lines_of disk new) L out answers
      → IsLogTurn disk T client n (slice_split is_line_feed bytes) old new answers
  log_turn N n piece bytes old new L out answers same is empty says head (file, once, turn) = record {
    file = file;
    once = once;
    head = head;
    turn =
        subst (λ b. Turn (slice_split is_line_feed b) [] (log_of T (lines_of disk new))) is
        (subst (λ M. Turn (slice_split is_line_feed piece) [] M) (sym says ∙ ap (λ t. log_of t (lines_of disk new)) same)
        (subst (λ o. Turn (slice_split is_line_feed piece) o L) empty turn));
  }
    where
      Turn : List (List ℕ) → List ℕ → List Entry → Type 0
      Turn raws o M = IsTurn T client n raws (lines_of disk old) (lines_behind new.start file) (lines_of disk new) M o answers

  -- nothing was answered
  pub no_run : (n : ℕ) (log : KeptLog D) (bytes : List ℕ) → IsRun disk T client n log log bytes (slice_split is_line_feed bytes) []
  no_run n log bytes = record { asked = []; turns = no_turn; split = refl }

  -- behind the lines there stand others
  pub run-feed : (n : ℕ) (old new : KeptLog D) (front rest bytes : List ℕ) (left : List (List ℕ)) (text : List ℕ) → IsRun disk T client n old new front left text → bytes ≡ front ++ 10 ∷ rest
      → IsRun disk T client n old new bytes (left ++ slice_split is_line_feed rest) text
  run-feed n old new front rest bytes left text run is = record {
    asked = run.asked;
    turns = run.turns;
    split = ap (slice_split is_line_feed) is ∙ split-feed front rest ∙ ap (λ (ls : List (List ℕ)). ls ++ slice_split is_line_feed rest) run.split ∙ append_assoc run.asked left (slice_split is_line_feed rest);
  }

  -- a run, and then one from the line that it left
  pub run-then : (n k : ℕ) (old mid new : KeptLog D) (bytes begun more : List ℕ) (left : List (List ℕ)) (t u : List ℕ) (first : IsRun disk T client n old mid bytes (begun ∷ []) t)
      → k ≡ number_behind n first.asked → IsRun disk T client k mid new (begun ++ more) left u → IsRun disk T client n old new (bytes ++ more) left (t ++ u)
  run-then n k old mid new bytes begun more left t u first next second = record {
    asked = first.asked ++ second.asked;
    turns = turns-then n old mid first.asked t second.asked u new first.turns (subst (λ j. AreTurns disk T client j mid second.asked u new) next second.turns);
    split = split-more bytes more first.asked begun first.split ∙ ap (λ (ls : List (List ℕ)). first.asked ++ ls) second.split ∙ sym (append_assoc first.asked second.asked left);
  }

  -- the piece of a turn that was not answered
  pub unanswered_whole : (n : ℕ) (piece bytes : List ℕ) (old new : KeptLog D) → piece ≡ bytes
      → IsAsFound disk old new ⊎ IsAllOrNone disk T client n (slice_split is_line_feed piece) old new → IsAsFound disk old new ⊎ IsAllOrNone disk T client n (slice_split is_line_feed bytes) old new
  unanswered_whole n piece bytes old new is whole = subst (λ b. IsAsFound disk old new ⊎ IsAllOrNone disk T client n (slice_split is_line_feed b) old new) is whole

  pub unanswered_long : (n : ℕ) (piece bytes : List ℕ) (old new : KeptLog D) (fault : SessionFault) → piece ≡ bytes
      → (fault ≡ Replay Write → IsFailedBetween disk old new ⊎ IsTooLong disk T client n (slice_split is_line_feed piece) new)
      → fault ≡ Replay Write → IsFailedBetween disk old new ⊎ IsTooLong disk T client n (slice_split is_line_feed bytes) new
  unanswered_long n piece bytes old new fault is long write = subst (λ b. IsFailedBetween disk old new ⊎ IsTooLong disk T client n (slice_split is_line_feed b) new) is (long write)

  -- a turn that was not answered
  pub unanswered : (n : ℕ) (old new : KeptLog D) (bytes : List ℕ) (failed : Bool) (taken : Option (List ℕ)) (fault : SessionFault)
      → failed ≡ false → LosesNone disk old new → IsAsFound disk old new ⊎ IsAllOrNone disk T client n (slice_split is_line_feed bytes) old new → (fault ≢ Replay Write → IsAsFound disk old new)
      → (fault ≡ Replay (Read 2 DeviceFailed) → IsFailedBetween disk old new)
      → (fault ≡ Replay Write → IsFailedBetween disk old new ⊎ IsTooLong disk T client n (slice_split is_line_feed bytes) new)
      → IsTurnFault T (lines_of disk old) (lines_of disk new) (disk.found old.device) (disk.found new.device) fault
      → ((why : ReadCause) → fault ≢ Replay (Read 3 why)) → IsHalted disk T client n old new bytes failed taken taken fault
  unfolding no_run
  unanswered n old new bytes failed taken fault working none_lost whole unchanged read_failed write_failed told other = record {
    log = old;
    text = [];
    left = slice_split is_line_feed bytes;
    run = no_run n old bytes;
    behind = inl (record {
      more = slice_split is_line_feed bytes;
      beyond = [];
      next = sym (append-nil (slice_split is_line_feed bytes));
      working = working;
      written = Appends-nothing taken;
      none_lost = none_lost;
      whole = whole;
      unchanged = unchanged;
      read_failed = read_failed;
      write_failed = write_failed;
      told = inl told;
    });
    unread = λ why is. absurd (other why is);
  }

  -- a turn whose answers were not written whole
  pub unwritten : (n : ℕ) (old new : KeptLog D) (bytes shown answers : List ℕ) (failed : Bool) (before now : Option (List ℕ)) (fault : SessionFault)
      → IsLogTurn disk T client n (slice_split is_line_feed bytes) old new answers → shown ≡ answers
      → (count : ℕ) × (count < length shown) × Appends before now (take count shown) → failed ≡ true → fault ≡ Replay Write
      → IsHalted disk T client n old new bytes failed before now fault
  unfolding no_run
  unwritten n old new bytes shown answers failed before now fault turn is (count, short, wrote) broken told = record {
    log = old;
    text = [];
    left = slice_split is_line_feed bytes;
    run = no_run n old bytes;
    behind = inr (record {
      more = slice_split is_line_feed bytes;
      beyond = [];
      answers = answers;
      count = count;
      next = sym (append-nil (slice_split is_line_feed bytes));
      turn = turn;
      short = subst (λ a. count < length a) is short;
      written = subst (λ a. Appends before now (take count a)) is wrote;
      broken = broken;
      told = told;
    });
    unread = λ why is. absurd (let e : Replay Write ≡ Replay (Read 3 why) = sym told ∙ is in cc);
  }

  -- a fault that comes before what stands behind these lines
  pub halted-feed : (n : ℕ) (old new : KeptLog D) (front rest bytes : List ℕ) (failed : Bool) (before now : Option (List ℕ)) (fault : SessionFault)
      → IsHalted disk T client n old new front failed before now fault → bytes ≡ front ++ 10 ∷ rest → ((why : ReadCause) → fault ≢ Replay (Read 3 why))
      → IsHalted disk T client n old new bytes failed before now fault
  unfolding run-feed
  halted-feed n old new front rest bytes failed before now fault h is other = record {
    log = h.log;
    text = h.text;
    left = h.left ++ slice_split is_line_feed rest;
    run = run-feed n old h.log front rest bytes h.left h.text h.run is;
    behind = ⊎_elim (λ u. inl (later u)) (λ w. inr (longer w)) h.behind;
    unread = λ why is. absurd (other why is);
  }
    where
      later : IsUnanswered disk T client (number_behind n h.run.asked) h.log new h.text h.left failed before now fault
          → IsUnanswered disk T client (number_behind n h.run.asked) h.log new h.text (h.left ++ slice_split is_line_feed rest) failed before now fault
      later u = record {
        more = u.more;
        beyond = u.beyond ++ slice_split is_line_feed rest;
        next = ap (λ (ls : List (List ℕ)). ls ++ slice_split is_line_feed rest) u.next ∙ append_assoc u.more u.beyond (slice_split is_line_feed rest);
        working = u.working;
        written = u.written;
        none_lost = u.none_lost;
        whole = u.whole;
        unchanged = u.unchanged;
        read_failed = u.read_failed;
        write_failed = u.write_failed;
        told = u.told;
      }

      longer : IsUnwritten disk T client (number_behind n h.run.asked) h.log new h.text h.left failed before now fault
          → IsUnwritten disk T client (number_behind n h.run.asked) h.log new h.text (h.left ++ slice_split is_line_feed rest) failed before now fault
      longer w = record {
        more = w.more;
        beyond = w.beyond ++ slice_split is_line_feed rest;
        answers = w.answers;
        count = w.count;
        next = ap (λ (ls : List (List ℕ)). ls ++ slice_split is_line_feed rest) w.next ∙ append_assoc w.more w.beyond (slice_split is_line_feed rest);
        turn = w.turn;
        short = w.short;
        written = w.written;
        broken = w.broken;
        told = w.told;
      }

  -- a run, and then a fault
  pub halted-then : (n k : ℕ) (old mid new : KeptLog D) (bytes begun more : List ℕ) (t : List ℕ) (failed : Bool) (before mean now : Option (List ℕ)) (fault : SessionFault)
      (first : IsRun disk T client n old mid bytes (begun ∷ []) t) → k ≡ number_behind n first.asked → Appends before mean t
      → IsHalted disk T client k mid new (begun ++ more) failed mean now fault → IsHalted disk T client n old new (bytes ++ more) failed before now fault
  unfolding run-then
  halted-then n k old mid new bytes begun more t failed before mean now fault first next wrote h = record {
    log = h.log;
    text = t ++ h.text;
    left = h.left;
    run = run-then n k old mid h.log bytes begun more h.left t h.text first next h.run;
    behind = ⊎_elim (λ u. inl (told u)) (λ w. inr (written w)) h.behind;
    unread = λ why is. let left = h.unread why is in (left.0, left.1, unreadable_more (begun ++ more) (bytes ++ more) why longer left.2);
  }
    where
      longer : length (begun ++ more) ≤ length (bytes ++ more)
      longer = omega (arith, last_short bytes first.asked begun first.split, length-append begun more, length-append bytes more)

      numbers : number_behind k h.run.asked ≡ number_behind n (first.asked ++ h.run.asked)
      numbers = ap (λ j. number_behind j h.run.asked) next ∙ sym (number_behind-append n first.asked h.run.asked)

      told : IsUnanswered disk T client (number_behind k h.run.asked) h.log new h.text h.left failed mean now fault
          → IsUnanswered disk T client (number_behind n (first.asked ++ h.run.asked)) h.log new (t ++ h.text) h.left failed before now fault
      told u = record {
        more = u.more;
        beyond = u.beyond;
        next = u.next;
        working = u.working;
        written = Appends-then before mean now t h.text wrote u.written;
        none_lost = u.none_lost;
        whole = ⊎_elim inl (λ (all : IsAllOrNone disk T client (number_behind k h.run.asked) u.more h.log new). inr (subst (λ j. IsAllOrNone disk T client j u.more h.log new) numbers all)) u.whole;
        unchanged = u.unchanged;
        read_failed = u.read_failed;
        write_failed = λ is. subst (λ j. IsFailedBetween disk h.log new ⊎ IsTooLong disk T client j u.more new) numbers (u.write_failed is);
        told = u.told;
      }

      written : IsUnwritten disk T client (number_behind k h.run.asked) h.log new h.text h.left failed mean now fault
          → IsUnwritten disk T client (number_behind n (first.asked ++ h.run.asked)) h.log new (t ++ h.text) h.left failed before now fault
      written w = record {
        more = w.more;
        beyond = w.beyond;
        answers = w.answers;
        count = w.count;
        next = w.next;
        turn = subst (λ j. IsLogTurn disk T client j w.more h.log new w.answers) numbers w.turn;
        short = w.short;
        written = subst (Appends before now) (sym (append_assoc t h.text (take w.count w.answers))) (Appends-then before mean now t (h.text ++ take w.count w.answers) wrote w.written);
        broken = w.broken;
        told = w.told;
      }

  -- what was read has no end of a line
  pub taken_line : (n k : ℕ) (log : KeptLog D) (bytes begun : List ℕ) (taken : Option (List ℕ)) → IsLine bytes → begun ≡ bytes → k ≡ n → IsTakenIn disk T client n k log log bytes begun taken taken
  taken_line n k log bytes begun taken is same next = record {
    text = [];
    run = record { asked = []; turns = no_turn; split = slice_split_none is_line_feed bytes is ∙ ap (λ (b : List ℕ). b ∷ []) (sym same) };
    numbers = next;
    written = Appends-nothing taken;
  }

  -- a turn, and behind its lines one whose end has not come
  pub taken_turn : (n k : ℕ) (old new : KeptLog D) (front rest bytes begun : List ℕ) (before now : Option (List ℕ))
      → (text : List ℕ) × IsLogTurn disk T client n (slice_split is_line_feed front) old new text × Appends before now text
      → bytes ≡ front ++ 10 ∷ rest → IsLine rest → begun ≡ rest → k ≡ number_behind n (slice_split is_line_feed front) → IsTakenIn disk T client n k old new bytes begun before now
  taken_turn n k old new front rest bytes begun before now (text, turn, wrote) is line same next = record {
    text = text;
    run = record {
      asked = slice_split is_line_feed front;
      turns = one_more [] (slice_split is_line_feed front) [] text old new no_turn turn;
      split =
          ap (slice_split is_line_feed) is ∙ split-feed front rest
          ∙ ap (λ (ls : List (List ℕ)). slice_split is_line_feed front ++ ls) (slice_split_none is_line_feed rest line ∙ ap (λ (b : List ℕ). b ∷ []) (sym same));
    };
    numbers = next;
    written = wrote;
  }

  -- a fault behind what was taken in
  pub halted_taken : (n k : ℕ) (old new : KeptLog D) (bytes begun : List ℕ) (failed : Bool) (before now : Option (List ℕ)) (fault : SessionFault)
      → IsTakenIn disk T client n k old new bytes begun before now → failed ≡ false → IsInputFault bytes fault → IsHalted disk T client n old new bytes failed before now fault
  halted_taken n k old new bytes begun failed before now fault h working is = record {
    log = new;
    text = h.text;
    left = begun ∷ [];
    run = h.run;
    behind = inl (record {
      more = [];
      beyond = begun ∷ [];
      next = refl;
      working = working;
      written = h.written;
      none_lost = inl (inl refl);
      whole = inl (inl (inl refl));
      unchanged = λ _. inl (inl refl);
      read_failed = λ unread. absurd (input_not_log bytes fault is unread);
      write_failed = λ write. absurd (input_not_write bytes fault is write);
      told = input_told T (lines_of disk new) (lines_of disk new) (disk.found new.device) (disk.found new.device) bytes fault is;
    });
    unread = λ why unread. (begun, refl, input_unread bytes fault is why unread);
  }

  -- a run whose last line was answered too
  pub run_out : (n k : ℕ) (old mid new : KeptLog D) (bytes begun : List ℕ) (t u : List ℕ) (first : IsRun disk T client n old mid bytes (begun ∷ []) t) → k ≡ number_behind n first.asked → IsLine begun
      → IsLogTurn disk T client k (slice_split is_line_feed begun) mid new u → IsRun disk T client n old new bytes [] (t ++ u)
  run_out n k old mid new bytes begun t u first next is turn = record {
    asked = first.asked ++ slice_split is_line_feed begun;
    turns = one_more first.asked (slice_split is_line_feed begun) t u mid new first.turns (subst (λ j. IsLogTurn disk T client j (slice_split is_line_feed begun) mid new u) next turn);
    split = first.split ∙ ap (λ (ls : List (List ℕ)). first.asked ++ ls) (sym (slice_split_none is_line_feed begun is)) ∙ sym (append-nil (first.asked ++ slice_split is_line_feed begun));
  }

  -- what was taken in, and then more
  pub taken-then : (n k m : ℕ) (old mid new : KeptLog D) (bytes begun more left : List ℕ) (before mean now : Option (List ℕ)) → IsTakenIn disk T client n k old mid bytes begun before mean
      → IsTakenIn disk T client k m mid new (begun ++ more) left mean now → IsTakenIn disk T client n m old new (bytes ++ more) left before now
  unfolding run-then
  taken-then n k m old mid new bytes begun more left before mean now h next = record {
    text = h.text ++ next.text;
    run = run-then n k old mid new bytes begun more (left ∷ []) h.text next.text h.run h.numbers next.run;
    numbers = next.numbers ∙ ap (λ j. number_behind j next.run.asked) h.numbers ∙ sym (number_behind-append n h.run.asked next.run.asked);
    written = Appends-then before mean now h.text next.text h.written next.written;
  }

  module _ (old : KeptLog D) where
    pub underway-start : (begun : List ℕ) (rest taken : Option (List ℕ)) → begun ≡ [] → IsUnderway disk T client 0 1 old old begun rest rest taken taken
    underway-start begun rest taken none = record {
      bytes = [];
      read = Consumes-nothing rest;
      some = omega arith;
      taken_in = taken_line 1 1 old [] begun taken (All-nil (λ b. is_line_feed b ≡ false)) none refl;
    }

    module _ (reads k : ℕ) (mid new : KeptLog D) (begun : List ℕ) (r0 r1 r2 t0 t1 t2 : Option (List ℕ)) (h : IsUnderway disk T client reads k old mid begun r0 r1 t0 t1) where
      pub underway-more : (N : Recording) (m : ℕ) (more left : List ℕ) → N ≡ T → Consumes r1 r2 more → 0 < length more → IsTakenIn disk N client k m mid new (begun ++ more) left t1 t2
          → IsUnderway disk T client (reads + 1) m old new left r0 r2 t0 t2
      underway-more N m more left same read one next = record {
        bytes = h.bytes ++ more;
        read = Consumes-then r0 r1 r2 h.bytes more h.read read;
        some = omega (arith, h.some, one, length-append h.bytes more);
        taken_in = taken-then 1 k m old mid new h.bytes begun more left t0 t1 t2 h.taken_in (subst (λ t. IsTakenIn disk t client k m mid new (begun ++ more) left t1 t2) same next);
      }

      -- a fault of what was read last
      pub underway-fault : (N : Recording) (more : List ℕ) (failed : Bool) (fault : SessionFault) → N ≡ T → Consumes r1 r2 more → IsHalted disk N client k mid new (begun ++ more) failed t1 t2 fault
          → (bytes : List ℕ) × Consumes r0 r2 bytes × IsHalted disk T client 1 old new bytes failed t0 t2 fault
      underway-fault N more failed fault same read halted = (
        h.bytes ++ more,
        Consumes-then r0 r1 r2 h.bytes more h.read read,
        halted-then 1 k old mid new h.bytes begun more h.taken_in.text failed t0 t1 t2 fault h.taken_in.run h.taken_in.numbers h.taken_in.written (subst (λ t. IsHalted disk t client k mid new (begun ++ more) failed t1 t2 fault) same halted),
      )

      -- a fault of the last line
      pub underway-last_fault : (N : Recording) (failed : Bool) (fault : SessionFault) → N ≡ T → Consumes r1 r2 [] → IsHalted disk N client k mid new begun failed t1 t2 fault
          → (bytes : List ℕ) × Consumes r0 r2 bytes × IsHalted disk T client 1 old new bytes failed t0 t2 fault
      underway-last_fault N failed fault same read halted = underway-fault N [] failed fault same read (subst (λ b. IsHalted disk N client k mid new b failed t1 t2 fault) (sym (append-nil begun)) halted)

      -- the last line was answered
      pub underway-out : (N : Recording) → N ≡ T → Consumes r1 r2 [] → IsLine begun → (text : List ℕ) × IsLogTurn disk N client k (slice_split is_line_feed begun) mid new text × Appends t1 t2 text
          → (bytes : List ℕ) × Consumes r0 r2 bytes × IsFinished disk T client 1 old new bytes t0 t2
      underway-out N same read is (text, turn, wrote) = (
        h.bytes,
        subst (Consumes r0 r2) (append-nil h.bytes) (Consumes-then r0 r1 r2 h.bytes [] h.read read),
        record {
          text = h.taken_in.text ++ text;
          left = [];
          run = run_out 1 k old mid new h.bytes begun h.taken_in.text text h.taken_in.run h.taken_in.numbers is (subst (λ t. IsLogTurn disk t client k (slice_split is_line_feed begun) mid new text) same turn);
          whole = inl refl;
          written = Appends-then t0 t1 t2 h.taken_in.text text h.taken_in.written wrote;
        },
      )

    module _ (reads k : ℕ) (new : KeptLog D) (begun : List ℕ) (r0 r1 r2 t0 t1 : Option (List ℕ)) (h : IsUnderway disk T client reads k old new begun r0 r1 t0 t1) where
      -- no line is begun at the end
      pub underway-end : Consumes r1 r2 [] → begun ≡ [] → (bytes : List ℕ) × Consumes r0 r2 bytes × IsFinished disk T client 1 old new bytes t0 t1
      underway-end read none = (
        h.bytes,
        subst (Consumes r0 r2) (append-nil h.bytes) (Consumes-then r0 r1 r2 h.bytes [] h.read read),
        record { text = h.taken_in.text; left = begun ∷ []; run = h.taken_in.run; whole = inr (ap (λ (b : List ℕ). b ∷ []) none); written = h.taken_in.written },
      )

      -- nothing more was read
      pub underway-unread : (failed : Bool) (why : ReadCause) (fault : SessionFault) → Keeps r1 r2 → failed ≡ false → fault ≡ Replay (Read 3 why) → (reads ≤ length h.bytes → IsUnreadable h.bytes why) → (bytes : List ℕ) × Consumes r0 r2 bytes × IsHalted disk T client 1 old new bytes failed t0 t1 fault
      underway-unread failed why fault keeps working unread is = (
        h.bytes,
        Consumes-keeps r0 r1 r2 h.bytes h.read keeps,
        halted_taken 1 k old new h.bytes begun failed t0 t1 fault h.taken_in working (inr (why, unread, is h.some)),
      )
