-- The log that lines make, and answers one after another.
use Rattle.std.proofs.Common.{◌≡◌, ◌≢◌, ◌⊎◌, inl, inr, ℕ, ◌+◌, ◌≤◌, ◌<◌, ltb, List, [], ◌∷◌, ◌++◌, Option, Some, None, Result, Ok, Err, length, refl, sym, ap, ◌∙◌, subst, append_assoc, append-nil, length-append, arith}
use Rattle.std.proofs.lemmas.Bool.{cases_Bool, ltb-true}
use Rattle.rapid_text.specs.Recording.{Recording}
use Rattle.inverse_log.specs.declared.call.Call.{Call}
use Rattle.inverse_log.specs.declared.call.Call.TheVariants.{Do, Batch as DoAll, Undo, UndoAt, Propose, Show, List as ListNames, Races}
use Rattle.inverse_log.specs.declared.entry.Entry.{Entry}
use Rattle.inverse_log.specs.declared.refusal.Refusal.{Refusal}
use Rattle.inverse_log.specs.declared.reply.Reply.{Reply}
use Rattle.inverse_log.specs.declared.reply.Reply.TheVariants.{Undone}
use Rattle.inverse_log.specs.Log.{Live, last_live, blocker_of}
use Rattle.inverse_log.specs.Answer.{answer_of, limited, entry_of, logged, log_after, undo_or, undone_or, Called, IsLegal, starts, goes_on}
use Rattle.inverse_log.specs.declared.refusal.Refusal.TheVariants.{Move, NothingToUndo, RestsOn, NotReordering, NotShown, LogFull, OutOfMemory, NoSuchEntry, NotOwn, NotLive, BadBatch, InBatch}
use Rattle.inverse_log.proofs.CallerLemmas.{grown_by, called_grown}
use Rattle.inverse_log.proofs.SizeLemmas.{limited_ok}
use Rattle.inverse_log.proofs.HeadLemmas.{at_latest_law}
use Rattle.script_language.specs.Scripts.{script_line_reading}
use Rattle.kept_session.specs.Sessions.{log_by, log_behind, log_of, AreLogged, number_after, number_behind, IsLineAnswered, AreAnswered}
use Rattle.kept_session.specs.Steps.{SaysCall}

-- the calls of lines, and then those of further lines
pub log_behind-append : (T : Recording) (L : List Entry) (xs ys : List (List ℕ)) → log_behind T L (xs ++ ys) ≡ log_behind T (log_behind T L xs) ys
log_behind-append T L [] ys = refl
log_behind-append T L (x ∷ xs) ys = log_behind-append T (log_by T L (script_line_reading x)) xs ys

-- an undo that was answered so is the undo of that entry by its number
pub undo_numbered : (T : Recording) (L : List Entry) (c n k : ℕ) → answer_of T L c Undo ≡ Ok (Undone n k) → log_after T L c (UndoAt k) ≡ log_after T L c Undo
undo_numbered T L c n k h = by (last_live L c) refl (limited_ok L (undo_or L (last_live L c)) (Undone n k) h)
  where
    free : (e : Live) → last_live L c ≡ Some e → (o : Option Live) → undone_or (length L) e o ≡ Ok (Undone n k) → log_after T L c (UndoAt k) ≡ log_after T L c Undo
    free e is None at = let same : e.number ≡ k = cc in subst (λ j. log_after T L c (UndoAt j) ≡ log_after T L c Undo) same (at_latest_law T L c e is).1
    free e is (Some b) at = absurd cc

    by : (o : Option Live) → last_live L c ≡ o → undo_or L o ≡ Ok (Undone n k) → log_after T L c (UndoAt k) ≡ log_after T L c Undo
    by None is at = absurd cc
    by (Some e) is at = free e is (blocker_of L e) at

-- the line of a call leaves the log that the call does
pub says_log : (T : Recording) (L : List Entry) (c : ℕ) (call : Call) (reply : Reply) (line : List ℕ) → answer_of T L c call ≡ Ok reply → SaysCall c call reply line → log_by T L (script_line_reading line) ≡ log_after T L c call
says_log T L c call reply line h (inl reads) = ap (log_by T L) reads
says_log T L c call reply line h (inr (n, k, is, told, reads)) =
    let answered : answer_of T L c Undo ≡ Ok (Undone n k) = sym (ap (answer_of T L c) is) ∙ h ∙ ap Ok told in
    ap (log_by T L) reads ∙ undo_numbered T L c n k answered ∙ sym (ap (log_after T L c) is)

-- one line more
pub answered_more : (T : Recording) (client : Option ℕ) (n : ℕ) (raws : List (List ℕ)) (raw : List ℕ) (L K M : List Entry) (t u : List ℕ)
    → AreAnswered T client n raws L t K → IsLineAnswered T client (number_behind n raws) raw K u M → AreAnswered T client n (raws ++ raw ∷ []) L (t ++ u) M
answered_more T client n [] raw L K M t u so_far one = (
  u,
  [],
  M,
  subst (λ X. IsLineAnswered T client n raw X u M) so_far.1 one,
  (refl, refl),
  ap (λ (x : List ℕ). x ++ u) so_far.0 ∙ sym (append-nil u),
)
answered_more T client n (r ∷ raws) raw L K M t u (first, rest, X, is, more, split) one = (
  first,
  rest ++ u,
  X,
  is,
  answered_more T client (number_after n) raws raw X K M rest u more one,
  ap (λ (x : List ℕ). x ++ u) split ∙ append_assoc first rest u,
)

pub number_behind-push : (n : ℕ) (raws : List (List ℕ)) (raw : List ℕ) → number_behind n (raws ++ raw ∷ []) ≡ number_after (number_behind n raws)
number_behind-push n [] raw = refl
number_behind-push n (r ∷ raws) raw = number_behind-push (number_after n) raws raw

-- a refused call leaves the log
pub refused_log : (T : Recording) (L M : List Entry) (c : ℕ) (call : Call) (why : Refusal) → Called T L c call (Err why) M → M ≡ L
refused_log T L M c call OutOfMemory h = h.1
refused_log T L M c call LogFull h = h.1
refused_log T L M c call (Move why) h = h.1
refused_log T L M c call NothingToUndo h = h.1
refused_log T L M c call (RestsOn k x) h = h.1
refused_log T L M c call (NotReordering p) h = h.1
refused_log T L M c call NotShown h = h.1
refused_log T L M c call NoSuchEntry h = h.1
refused_log T L M c call NotOwn h = h.1
refused_log T L M c call NotLive h = h.1
refused_log T L M c call BadBatch h = h.1
refused_log T L M c call (InBatch place why) h = h.1

-- the log that lines and further lines stand for
pub grown_log : (T N : Recording) (before more after : List (List ℕ)) (L M : List Entry) → N ≡ T → after ≡ before ++ more → log_of T before ≡ L → log_behind T L more ≡ M → log_of N after ≡ M
grown_log T N before more after L M same is says made =
    ap (λ t. log_of t after) same ∙ ap (log_of T) is ∙ log_behind-append T [] before more ∙ ap (λ X. log_behind T X more) says ∙ made

-- a call that is answered leaves the log as it was, or with one entry more
called_one : (T : Recording) (L M : List Entry) (c : ℕ) (call : Call) (reply : Reply) → Called T L c call (Ok reply) M → (M ≡ L) ⊎ (length M ≡ length L + 1)
called_one T L M c call reply h = elim (called_grown T L M c call (Ok reply) h) [ inl same ↦ inl same | inr more ↦ inr (ap length more.1 ∙ length-append L (more.0 ∷ [])) ]

pub called_more : (T : Recording) (L M : List Entry) (c : ℕ) (call : Call) (reply : Reply) → Called T L c call (Ok reply) M → length M ≢ length L → length M ≡ length L + 1
called_more T L M c call reply h more = elim (called_one T L M c call reply h) [ inl same ↦ absurd (more (ap length same)) | inr one ↦ one ]

pub called_same : (T : Recording) (L M : List Entry) (c : ℕ) (call : Call) (reply : Reply) → Called T L c call (Ok reply) M → length M ≡ length L → M ≡ L
called_same T L M c call reply h as_long = elim (called_one T L M c call reply h) [ inl same ↦ same | inr one ↦ absurd (omega (arith, one, as_long)) ]

-- what a refused call is answered, where it is not for want of memory
refused_answer : (T : Recording) (L M : List Entry) (c : ℕ) (call : Call) (why : Refusal) → why ≢ OutOfMemory → Called T L c call (Err why) M → answer_of T L c call ≡ Err why
refused_answer T L M c call OutOfMemory memory h = absurd (memory refl)
refused_answer T L M c call LogFull memory h = h.0
refused_answer T L M c call (Move why) memory h = h.0
refused_answer T L M c call NothingToUndo memory h = h.0
refused_answer T L M c call (RestsOn k x) memory h = h.0
refused_answer T L M c call (NotReordering p) memory h = h.0
refused_answer T L M c call NotShown memory h = h.0
refused_answer T L M c call NoSuchEntry memory h = h.0
refused_answer T L M c call NotOwn memory h = h.0
refused_answer T L M c call NotLive memory h = h.0
refused_answer T L M c call BadBatch memory h = h.0
refused_answer T L M c call (InBatch place why) memory h = h.0

-- a call that is refused, and not for want of memory, adds no entry
pub refused_adds_none : (T : Recording) (L M : List Entry) (c : ℕ) (call : Call) (why : Refusal) → why ≢ OutOfMemory → Called T L c call (Err why) M → length (log_after T L c call) ≢ length L + 1
refused_adds_none T L M c call why memory h one =
    let none : length (log_after T L c call) ≡ length L = ap (λ (a : Result Reply Refusal). length (L ++ logged c call a)) (refused_answer T L M c call why memory h) ∙ ap length (append-nil L) in
    absurd (omega (arith, one, none))

-- and so does one that leaves a log as long as it was
pub none_added : (T : Recording) (L M : List Entry) (c : ℕ) (call : Call) (reply : Reply) → Called T L c call (Ok reply) M → length M ≡ length L → length (log_after T L c call) ≢ length L + 1
none_added T L M c call reply h as_long one = absurd (omega (arith, one, as_long, ap length h.1))

-- a line that is no call adds no entry
pub no_more : (L : List Entry) → length L ≢ length L + 1
no_more L one = absurd (omega (arith, one))

-- each line of these, and then each of those, adds an entry
pub AreLogged-append : (T : Recording) (L : List Entry) (xs ys : List (List ℕ)) → AreLogged T L xs → AreLogged T (log_behind T L xs) ys → AreLogged T L (xs ++ ys)
AreLogged-append T L [] ys all more = more
AreLogged-append T L (x ∷ xs) ys all more = (all.0, AreLogged-append T (log_by T L (script_line_reading x)) xs ys all.1 more)

-- there is a line for each entry
pub logged_length : (T : Recording) (L : List Entry) (lines : List (List ℕ)) → AreLogged T L lines → length (log_behind T L lines) ≡ length L + length lines
logged_length T L [] all = omega arith
logged_length T L (x ∷ xs) all = omega (arith, logged_length T (log_by T L (script_line_reading x)) xs all.1, all.0)

-- lines that were logged, and further ones
pub grown_logged : (T N : Recording) (before more after : List (List ℕ)) (L : List Entry) → N ≡ T → after ≡ before ++ more → log_of T before ≡ L → AreLogged T [] before → AreLogged T L more → AreLogged N [] after
grown_logged T N before more after L same is says all further =
    subst (λ t. AreLogged t [] after) (sym same) (subst (λ ls. AreLogged T [] ls) (sym is) (AreLogged-append T [] before more all (subst (λ X. AreLogged T X more) (sym says) further)))

-- a log that has room for an entry
limited_room : (L : List Entry) (a : Result Reply Refusal) (reply : Reply) → limited L a ≡ Ok reply → length L < 1000000
limited_room L a reply h = elim (cases_Bool (ltb (length L) 1000000)) [
  | inl t ↦ ltb-true _ _ t
  | inr f ↦ let e : Err LogFull ≡ Ok reply = rw f at h in absurd cc
]

added_room : (T : Recording) (L : List Entry) (c : ℕ) (call : Call) (reply : Reply) → answer_of T L c call ≡ Ok reply → (entry_of c call reply ≡ []) ⊎ (length L < 1000000)
added_room T L c (Do d) reply h = inr (limited_room L _ reply h)
added_room T L c (DoAll D) reply h = inr (limited_room L _ reply h)
added_room T L c Undo reply h = inr (limited_room L _ reply h)
added_room T L c (UndoAt j) reply h = inr (limited_room L _ reply h)
added_room T L c (Propose a b P) reply h = inr (limited_room L _ reply h)
added_room T L c (Show x) reply h = inl refl
added_room T L c ListNames reply h = inl refl
added_room T L c (Races x) reply h = inl refl

-- a call leaves a log of no more
added_short : (T : Recording) (L : List Entry) (c : ℕ) (call : Call) → length L ≤ 1000000 → (a : Result Reply Refusal) → answer_of T L c call ≡ a → length (log_after T L c call) ≤ 1000000
added_short T L c call short (Err why) is = omega (arith, short, ap (λ (a : Result Reply Refusal). length (L ++ logged c call a)) is, ap length (append-nil L))
added_short T L c call short (Ok reply) is = elim (added_room T L c call reply is) [
  | inl none ↦ omega (arith, short, ap (λ (a : Result Reply Refusal). length (L ++ logged c call a)) is, ap (λ (E : List Entry). length (L ++ E)) none, ap length (append-nil L))
  | inr room ↦ elim (grown_by L c call (answer_of T L c call)) [
    | inl same ↦ omega (arith, short, ap length same)
    | inr more ↦ omega (arith, room, ap length more.1, length-append L (more.0 ∷ []))
  ]
]

-- a legal log has at most 1,000,000 entries
pub legal_short : (T : Recording) (L : List Entry) → IsLegal T L → length L ≤ 1000000
legal_short T [] starts = omega arith
legal_short T _ (goes_on L c call low high legal) = added_short T L c call (legal_short T L legal) (answer_of T L c call) refl
