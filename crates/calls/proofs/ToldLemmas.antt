-- Seats that are handed out in order and come back, and what is printed of them.
use Rattle.std.proofs.Common.{◌≡◌, ℕ, zero, suc, ◌+◌, ◌-◌, ◌<◌, List, [], ◌∷◌, ◌++◌, length, map, slice_get, slice_set, replicate, Option, Some, None, Result, Ok, Err, All, IfOk, IsOk, OnOk, Vec, refl, sym, ap, ◌∙◌, subst, arith, append_assoc, append-nil}
use Rattle.std.proofs.lemmas.List.{map-append, flat_map_more}
use Rattle.std.proofs.lemmas.List.Elements.{All-append, All-cons}
use Rattle.std.specs.declared.alloc.Global.{Global}
use Rattle.rapid_text.specs.declared.memory.OutOfMemory.{OutOfMemory}
use Rattle.rapid_text.specs.Recording.{Recording}
use Rattle.inverse_log.specs.declared.entry.Entry.{Entry}
use Rattle.inverse_log.specs.Log.{Benched}
use Rattle.report.specs.Log.{log_text}
use Rattle.workspace_lock.specs.Turns.{Sees}
use Rattle.workspace_lock.specs.Seating.{Site, SeatView, SeatsView, TakesFirst, mark_in, fresh_seat, fresh_rows, Closes}
use Rattle.script_language.specs.Scripts.{Asked}
use Rattle.client_scripts.specs.Seats.{RunsScript}
use Rattle.calls.specs.Requests.{AreBehind, SearchesBy}
use Rattle.calls.specs.Searches.{further_clients, IsSearched}
use Rattle.calls.proofs.SearchLemmas.{searched}
use Rattle.calls.specs.Jobs.{Job, Told, lines_of, told_text, AnswersJob, AnswerJobs, AreSeated, Numbered, AllLines}
use Rattle.calls.specs.Told.{client_text, clients_text, fresh_bench, AreAnswered, AreTold}

some_is : {A : Type 0} (a b : A) → Some a ≡ Some b → a ≡ b
some_is a b e = cc e

-- the first seat that is in is the one behind those that are out, and it is out then
pub first_taken : (k : ℕ) (first : SeatView) (rest : List (Option SeatView)) (p : ℕ) (c : SeatView) → slice_get (replicate k None ++ Some first ∷ rest) p ≡ Some (Some c)
    → ((j : ℕ) → j < p → slice_get (replicate k None ++ Some first ∷ rest) j ≡ Some None)
    → (c ≡ first) × (slice_set (replicate k None ++ Some first ∷ rest) p None ≡ replicate (suc k) None ++ rest)
first_taken zero first rest zero c there least = (sym (some_is first c (some_is (Some first) (Some c) there)), refl)
first_taken zero first rest (suc p) c there least = absurd (cc (some_is (Some first) None (least 0 (omega arith))))
first_taken (suc k) first rest zero c there least = absurd (cc (some_is None (Some c) there))
first_taken (suc k) first rest (suc p) c there least =
    let r = first_taken k first rest p c there (λ j below. least (suc j) (omega arith)) in
    (r.0, ap (λ l. None ∷ l) r.1)

-- fresh rows grow at their end
fresh_more : (site : Site) (n k : ℕ) → fresh_rows site n (suc k) ≡ fresh_rows site n k ++ Some (fresh_seat site (n + k)) ∷ []
fresh_more site n zero = ap (λ m. Some (fresh_seat site m) ∷ []) (omega arith)
fresh_more site n (suc k) =
    ap (λ l. Some (fresh_seat site n) ∷ l) (fresh_more site (suc n) k ∙ ap (λ m. fresh_rows site (suc n) k ++ Some (fresh_seat site m) ∷ []) (omega arith))

fresh_step : (site : Site) (n k more : ℕ) → fresh_rows site n (suc k + more) ≡ Some (fresh_seat site n) ∷ fresh_rows site (suc n) (k + more)
fresh_step site n k more = let longer : suc k + more ≡ suc (k + more) = omega arith in ap (fresh_rows site n) longer

-- the scripts so far have their seats, and the seats of the others and so many more are in
pub record Handing (site : Site) (more : ℕ) (scripts : List (List Asked)) (jobs : List Job) (left : List (List Asked)) (rows : List (Option SeatView)) : Type 0 where
  pub same : map (λ (j : Job). j.1) jobs ++ left ≡ scripts
  pub seats : map (λ (j : Job). Some j.0) jobs ≡ fresh_rows site 1 (length jobs)
  pub rows_are : rows ≡ replicate (length jobs) None ++ fresh_rows site (suc (length jobs)) (length left + more)

pub handing-start : (site : Site) (more : ℕ) (scripts : List (List Asked)) (rows : List (Option SeatView)) → rows ≡ fresh_rows site 1 (length scripts + more) → Handing site more scripts [] scripts rows
handing-start site more scripts rows e = record { same = refl; seats = refl; rows_are = e }

length-snoc : {A : Type 0} (xs : List A) (x : A) → length (xs ++ x ∷ []) ≡ suc (length xs)
length-snoc [] x = refl
length-snoc (y ∷ xs) x = ap suc (length-snoc xs x)

pub handing-more : (site : Site) (more : ℕ) (scripts : List (List Asked)) (jobs : List Job) (script : List Asked) (left : List (List Asked)) (s n : SeatsView) (c : SeatView)
    → Handing site more scripts jobs (script ∷ left) s.rows → TakesFirst s c n → Handing site more scripts (jobs ++ (c, script) ∷ []) left n.rows
handing-more site more scripts jobs script left s n c h t =
    let k = length jobs in
    let first = fresh_seat site (suc k) in
    let rest = fresh_rows site (suc (suc k)) (length left + more) in
    let p = c.number - 1 in
    let rows = h.rows_are ∙ ap (λ l. replicate k None ++ l) (fresh_step site (suc k) (length left) more) in
    let step = first_taken k first rest p c (subst (λ l. slice_get l p ≡ Some (Some c)) rows t.there) (λ j below. subst (λ l. slice_get l j ≡ Some None) rows (t.least j below)) in
    let long = length-snoc jobs (c, script) in
    record {
      same = ap (λ l. l ++ left) (map-append (λ (j : Job). j.1) jobs ((c, script) ∷ [])) ∙ append_assoc (map (λ (j : Job). j.1) jobs) (script ∷ []) left ∙ h.same;
      seats =
          map-append (λ (j : Job). Some j.0) jobs ((c, script) ∷ [])
          ∙ ap (λ l. l ++ Some c ∷ []) h.seats
          ∙ ap (λ x. fresh_rows site 1 k ++ Some x ∷ []) step.0
          ∙ ap (λ m. fresh_rows site 1 k ++ Some (fresh_seat site m) ∷ []) (omega arith)
          ∙ sym (fresh_more site 1 k)
          ∙ ap (fresh_rows site 1) (sym long);
      rows_are =
          ap (λ (x : SeatsView). x.rows) t.out
          ∙ ap (λ l. slice_set l p None) rows
          ∙ step.1
          ∙ ap (λ m. replicate m None ++ fresh_rows site (suc m) (length left + more)) (sym long);
    }

-- no script is left
pub handing-whole : (site : Site) (more : ℕ) (scripts : List (List Asked)) (jobs : List Job) (rows : List (Option SeatView)) → Handing site more scripts jobs [] rows
    → AreSeated site scripts jobs × (rows ≡ replicate (length jobs) None ++ fresh_rows site (suc (length jobs)) more)
handing-whole site more scripts jobs rows h =
    let none : 0 + more ≡ more = omega arith in
    ((sym (append-nil (map (λ (j : Job). j.1) jobs)) ∙ h.same, h.seats), h.rows_are ∙ ap (λ n. replicate (length jobs) None ++ fresh_rows site (suc (length jobs)) n) none)

-- what each was given and gave back, one after another
abbrev pub AnswerEach : Recording → List Job → List Told → Type 0
AnswerEach trace [] [] = Unit {0}
AnswerEach trace [] (t ∷ told) = ⊥
AnswerEach trace (j ∷ jobs) [] = ⊥
AnswerEach trace (j ∷ jobs) (t ∷ told) = AnswersJob trace j t × AnswerEach trace jobs told

pub answer_each : (trace : Recording) (jobs : List Job) (told : List Told) → AnswerJobs trace jobs told → AnswerEach trace jobs told
answer_each trace [] [] h = tt
answer_each trace [] (t ∷ told) h = absurd (omega (arith, h.0))
answer_each trace (j ∷ jobs) [] h = absurd (omega (arith, h.0))
answer_each trace (j ∷ jobs) (t ∷ told) h =
    (h.1 0 t j (omega arith), answer_each trace jobs told ((omega (arith, h.0)), λ i d e below. h.1 (suc i) d e (omega arith)))

pub numbered : (trace : Recording) (site : Site) (n : ℕ) (jobs : List Job) (told : List Told) → AnswerEach trace jobs told → map (λ (j : Job). Some j.0) jobs ≡ fresh_rows site n (length jobs) → Numbered n told
numbered trace site n [] [] h e = tt
numbered trace site n [] (t ∷ told) h e = absurd h
numbered trace site n (j ∷ jobs) [] h e = absurd h
numbered trace site n (j ∷ jobs) (t ∷ told) h e =
    let head : Some j.0 ≡ Some (fresh_seat site n) = cc e in
    (h.0.1 ∙ ap (λ (s : SeatView). s.number) (some_is j.0 (fresh_seat site n) head), numbered trace site (suc n) jobs told h.1 (cc e))

-- those that were told, with their lines
abbrev pub plain : List Told → List (SeatView × List ℕ)
plain told = map (λ (t : Told). (t.0, lines_of t.1)) told

pub told_text-clients : (n : ℕ) (told : List Told) → Numbered n told → told_text told ≡ clients_text n (plain told)
told_text-clients n [] h = refl
told_text-clients n (t ∷ told) h =
    ap (λ m. client_text m (lines_of t.1) ++ told_text told) h.0 ∙ ap (λ l. client_text n (lines_of t.1) ++ l) (told_text-clients (suc n) told h.1)

-- the log has what each has seen
abbrev pub AllSeen : List Entry → List Told → Type 0
AllSeen log [] = Unit {0}
AllSeen log (t ∷ told) = Sees (mark_in t.0) log × AllSeen log told

ran : (trace : Recording) (script : List Asked) (seat last : SeatView) (r : Result (Vec ℕ Global) OutOfMemory)
    → IsOk r → IfOk r (λ lines. RunsScript trace script seat [] last lines.items) → RunsScript trace script seat [] last (lines_of r)
ran trace script seat last (Ok lines) ok h = h
ran trace script seat last (Err refused) ok h = absurd (cc ok)

pub answered : (trace : Recording) (site : Site) (log : List Entry) (n : ℕ) (jobs : List Job) (told : List Told) → AnswerEach trace jobs told → map (λ (j : Job). Some j.0) jobs ≡ fresh_rows site n (length jobs) → AllLines told → AllSeen log told
    → AreAnswered trace site log n (map (λ (j : Job). j.1) jobs) (plain told)
answered trace site log n [] [] h e lines seen = tt
answered trace site log n [] (t ∷ told) h e lines seen = absurd h
answered trace site log n (j ∷ jobs) [] h e lines seen = absurd h
answered trace site log n (j ∷ jobs) (t ∷ told) h e lines seen =
    let head : Some j.0 ≡ Some (fresh_seat site n) = cc e in
    let first = subst (λ s. RunsScript trace j.1 s [] t.0 (lines_of t.1)) (some_is j.0 (fresh_seat site n) head) (ran trace j.1 j.0 t.0 t.1 lines.0 h.0.2) in
    (first, seen.0, answered trace site log (suc n) jobs told h.1 (cc e) lines.1 seen.1)

-- What has come back so far: its seats are in, and its lines are printed while memory lasts.
pub record Putting (old : List ℕ) (were : List (Option SeatView)) (told : List Told) (outcome : Result Unit OutOfMemory) (out : List ℕ) (rows : List (Option SeatView)) (left : List Told) : Type 0 where
  pub given : List Told
  pub split : given ++ left ≡ told
  pub text : OnOk outcome (AllLines given × (out ≡ old ++ told_text given))
  pub back : (rest : List (Option SeatView)) → Numbered 1 told → were ≡ replicate (length told) None ++ rest → rows ≡ map (λ (t : Told). Some t.0) given ++ (replicate (length left) None ++ rest)

pub putting-start : (old : List ℕ) (were : List (Option SeatView)) (told : List Told) → Putting old were told (Ok tt) old were told
putting-start old were told = record { given = []; split = refl; text = (tt, sym (append-nil old)); back = λ rest _ e. e }

lines_snoc : (given : List Told) (t : Told) → AllLines given → IsOk t.1 → AllLines (given ++ t ∷ [])
lines_snoc [] t h ok = (ok, tt)
lines_snoc (g ∷ given) t h ok = (h.0, lines_snoc given t h.1 ok)

number_of : (n : ℕ) (given : List Told) (t : Told) (left : List Told) → Numbered n (given ++ t ∷ left) → t.0.number ≡ n + length given
number_of n [] t left h = h.0 ∙ omega arith
number_of n (g ∷ given) t left h = number_of (suc n) given t left h.1 ∙ omega arith

get_at : {A : Type 0} (xs : List A) (y : A) (ys : List A) → slice_get (xs ++ y ∷ ys) (length xs) ≡ Some y
get_at [] y ys = refl
get_at (x ∷ xs) y ys = get_at xs y ys

set_at : {A : Type 0} (xs : List A) (y z : A) (ys : List A) → slice_set (xs ++ y ∷ ys) (length xs) z ≡ (xs ++ z ∷ []) ++ ys
set_at [] y z ys = refl
set_at (x ∷ xs) y z ys = ap (λ l. x ∷ l) (set_at xs y z ys)

seats_len : (given : List Told) → length (map (λ (t : Told). Some t.0) given) ≡ length given
seats_len [] = refl
seats_len (t ∷ given) = ap suc (seats_len given)

module _ (old : List ℕ) (were : List (Option SeatView)) (told : List Told) (so_far : Result Unit OutOfMemory) (out : List ℕ) (rows : List (Option SeatView)) (t : Told) (left : List Told) (h : Putting old were told so_far out rows (t ∷ left)) where
  text_more : (outcome : Result Unit OutOfMemory) (new : List ℕ) → OnOk outcome (IsOk so_far) → OnOk outcome (IsOk t.1 × (new ≡ out ++ client_text t.0.number (lines_of t.1)))
      → (before : Result Unit OutOfMemory) → before ≡ so_far → OnOk before (AllLines h.given × (out ≡ old ++ told_text h.given)) → OnOk outcome (AllLines (h.given ++ t ∷ []) × (new ≡ old ++ told_text (h.given ++ t ∷ [])))
  text_more (Err refused) new first then before same was = tt
  text_more (Ok done) new first then (Err refused) same was = absurd (cc (subst IsOk (sym same) first))
  text_more (Ok done) new first then (Ok was_done) same was =
      (lines_snoc h.given t was.0 then.0, then.1 ∙ ap (λ l. l ++ client_text t.0.number (lines_of t.1)) was.1 ∙ flat_map_more (λ (t : Told). client_text t.0.number (lines_of t.1)) old h.given t)

  abbrev pub given_back : List (Option SeatView) → Type 0
  given_back new = slice_get rows (t.0.number - 1) ≡ Some None → new ≡ slice_set rows (t.0.number - 1) (Some t.0)

  back_more : (new : List (Option SeatView)) → given_back new → (rest : List (Option SeatView)) → Numbered 1 told → were ≡ replicate (length told) None ++ rest → new ≡ map (λ (t : Told). Some t.0) (h.given ++ t ∷ []) ++ (replicate (length left) None ++ rest)
  back_more new put rest numbers none =
      let seats = map (λ (t : Told). Some t.0) h.given in
      let now = h.back rest numbers none in
      let number = number_of 1 h.given t left (subst (Numbered 1) (sym h.split) numbers) in
      let long = seats_len h.given in
      let place : t.0.number - 1 ≡ length seats = omega arith in
      let vacant : slice_get rows (t.0.number - 1) ≡ Some None = ap (slice_get rows) place ∙ ap (λ l. slice_get l (length seats)) now ∙ get_at seats None (replicate (length left) None ++ rest) in
      put vacant
      ∙ ap (λ i. slice_set rows i (Some t.0)) place
      ∙ ap (λ l. slice_set l (length seats) (Some t.0)) now
      ∙ set_at seats None (Some t.0) (replicate (length left) None ++ rest)
      ∙ ap (λ l. l ++ (replicate (length left) None ++ rest)) (sym (map-append (λ (t : Told). Some t.0) h.given (t ∷ [])))

  pub putting-more : (outcome : Result Unit OutOfMemory) (new : List ℕ) (rows_now : List (Option SeatView)) → OnOk outcome (IsOk so_far) → OnOk outcome (IsOk t.1 × (new ≡ out ++ client_text t.0.number (lines_of t.1))) → given_back rows_now
      → Putting old were told outcome new rows_now left
  putting-more outcome new rows_now first then put =
      record {
        given = h.given ++ t ∷ [];
        split = append_assoc h.given (t ∷ []) left ∙ h.split;
        text = text_more outcome new first then so_far refl h.text;
        back = back_more rows_now put;
      }

pub putting-text : (old : List ℕ) (were : List (Option SeatView)) (told : List Told) (outcome : Result Unit OutOfMemory) (out : List ℕ) (rows : List (Option SeatView)) → Putting old were told outcome out rows [] → OnOk outcome (AllLines told × (out ≡ old ++ told_text told))
putting-text old were told outcome out rows h =
    subst (λ g. OnOk outcome (AllLines g × (out ≡ old ++ told_text g))) (sym (append-nil h.given) ∙ h.split) h.text

pub putting-back : (old : List ℕ) (were : List (Option SeatView)) (told : List Told) (outcome : Result Unit OutOfMemory) (out : List ℕ) (rows : List (Option SeatView)) → Putting old were told outcome out rows []
    → (rest : List (Option SeatView)) → Numbered 1 told → were ≡ replicate (length told) None ++ rest → rows ≡ map (λ (t : Told). Some t.0) told ++ rest
putting-back old were told outcome out rows h rest numbers none =
    h.back rest numbers none ∙ ap (λ l. map (λ (t : Told). Some t.0) l ++ rest) (sym (append-nil h.given) ∙ h.split)

calls_len : (jobs : List Job) → length (map (λ (j : Job). j.1) jobs) ≡ length jobs
calls_len [] = refl
calls_len (j ∷ jobs) = ap suc (calls_len jobs)

same_len : (scripts : List (List Asked)) (jobs : List Job) → map (λ (j : Job). j.1) jobs ≡ scripts → length jobs ≡ length scripts
same_len scripts jobs e = sym (calls_len jobs) ∙ ap length e

-- a list behind the seats of those that were told
rows-front : (log : List Entry) (told : List Told) (rest : List (Option SeatView)) → ((i : ℕ) (c : SeatView) → slice_get (map (λ (t : Told). Some t.0) told ++ rest) i ≡ Some (Some c) → Sees (mark_in c) log) → AllSeen log told
rows-front log [] rest h = tt
rows-front log (t ∷ told) rest h = (h 0 t.0 refl, rows-front log told rest (λ i c e. h (suc i) c e))

-- what is said of each seat is said of the first one behind those that were told
rows-behind : (log : List Entry) (told : List Told) (last : SeatView) → ((i : ℕ) (c : SeatView) → slice_get (map (λ (t : Told). Some t.0) told ++ Some last ∷ []) i ≡ Some (Some c) → Sees (mark_in c) log) → Sees (mark_in last) log
rows-behind log [] last h = h 0 last refl
rows-behind log (t ∷ told) last h = rows-behind log told last (λ i c e. h (suc i) c e)

-- the client behind those of the scripts has searched
behind-searched : (workers : ℕ) (trace : Recording) (site : Site) (log : List Entry) (told : List Told) (client : ℕ) (rest rows : List (Option SeatView)) → site.start ≡ fresh_bench trace → AreBehind workers trace site client rest
    → rows ≡ map (λ (t : Told). Some t.0) told ++ rest → ((i : ℕ) (c : SeatView) → slice_get rows i ≡ Some (Some c) → Sees (mark_in c) log) → IsSearched workers trace site log client
behind-searched zero trace site log told client rest rows start behind back seen = tt
behind-searched (suc workers) trace site log told client rest rows start behind back seen =
    let last = behind.0 in
    let whole = rows-behind log told last (λ i c e. seen i c (ap (λ l. slice_get l i) (back ∙ ap (λ l. map (λ (t : Told). Some t.0) told ++ l) behind.2) ∙ e)) in
    searched trace site log client last start behind.1 whole

-- the whole run
pub told_whole : (trace : Recording) (scripts : List (List Asked)) (workers : ℕ) (site : Site) (jobs : List Job) (told : List Told) (rest : List (Option SeatView)) (seats : SeatsView) (bench : Benched) (out text : List ℕ)
    → site.start ≡ fresh_bench trace → site.clients ≡ length scripts + further_clients workers → AreSeated site scripts jobs → AnswerJobs trace jobs told → AllLines told → out ≡ told_text told
    → AreBehind workers trace site (suc (length jobs)) rest → seats.rows ≡ map (λ (t : Told). Some t.0) told ++ rest → Closes seats bench → text ≡ out ++ log_text bench.log
    → AreTold trace scripts workers text
told_whole trace scripts workers site jobs told rest seats bench out text start clients seated answers lines printed behind back closes logged =
    let each = answer_each trace jobs told answers in
    let numbers = numbered trace site 1 jobs told each seated.1 in
    let seen = rows-front bench.log told rest (λ i c e. closes.1 i c (ap (λ l. slice_get l i) back ∙ e)) in
    record {
      site = site;
      log = bench.log;
      told = plain told;
      start = start;
      clients = clients;
      each = subst (λ l. AreAnswered trace site bench.log 1 l (plain told)) seated.0 (answered trace site bench.log 1 jobs told each seated.1 lines seen);
      searched = subst (λ n. IsSearched workers trace site bench.log (suc n)) (same_len scripts jobs seated.0) (behind-searched workers trace site bench.log told (suc (length jobs)) rest seats.rows start behind back closes.1);
      printed = logged ∙ ap (λ l. l ++ log_text bench.log) (printed ∙ told_text-clients 1 told numbers);
    }

-- one job more is at the site
pub job_more : (site : Site) (jobs : List Job) (j : Job) → All (λ (job : Job). job.0.site ≡ site) jobs → j.0.site ≡ site → All (λ (job : Job). job.0.site ≡ site) (jobs ++ j ∷ [])
job_more site jobs j all is =
    All-append (λ (job : Job). job.0.site ≡ site) jobs (j ∷ []) all (All-cons (λ (job : Job). job.0.site ≡ site) j [] is (λ k d below. absurd (omega (arith, below))))

not_all_out : (k : ℕ) (first : SeatView) (rest : List (Option SeatView)) → ((j : ℕ) → j < length (replicate k None ++ Some first ∷ rest) → slice_get (replicate k None ++ Some first ∷ rest) j ≡ Some None) → ⊥
not_all_out zero first rest h = cc (some_is (Some first) None (h 0 (omega arith)))
not_all_out (suc k) first rest h = not_all_out k first rest (λ j below. h (suc j) (omega arith))

-- while a script is left, a seat is in
pub handing-seat : (site : Site) (more : ℕ) (scripts : List (List Asked)) (jobs : List Job) (script : List Asked) (left : List (List Asked)) (rows : List (Option SeatView)) → Handing site more scripts jobs (script ∷ left) rows
    → ((j : ℕ) → j < length rows → slice_get rows j ≡ Some None) → ⊥
handing-seat site more scripts jobs script left rows h out =
    let k = length jobs in
    not_all_out k (fresh_seat site (suc k)) (fresh_rows site (suc (suc k)) (length left + more)) (subst (λ l. (j : ℕ) → j < length l → slice_get l j ≡ Some None) (h.rows_are ∙ ap (λ l. replicate k None ++ l) (fresh_step site (suc k) (length left) more)) out)

-- without workers no seat stands behind those of the scripts
pub behind-none : (trace : Recording) (site : Site) (k workers : ℕ) (rows : List (Option SeatView)) → workers ≡ 0 → rows ≡ replicate k None ++ fresh_rows site (suc k) (further_clients workers)
    → (rest : List (Option SeatView)) × AreBehind workers trace site (suc k) rest × (rows ≡ replicate k None ++ rest)
behind-none trace site k zero rows none e = ([], refl, e)
behind-none trace site k (suc workers) rows none e = absurd (cc none)

-- with workers one does, which is in
pub behind-seat : (site : Site) (k workers : ℕ) (rows : List (Option SeatView)) → ¬ (workers ≡ 0) → rows ≡ replicate k None ++ fresh_rows site (suc k) (further_clients workers) → ((j : ℕ) → j < length rows → slice_get rows j ≡ Some None) → ⊥
behind-seat site k zero rows some e out = some refl
behind-seat site k (suc workers) rows some e out = not_all_out k (fresh_seat site (suc k)) [] (subst (λ l. (j : ℕ) → j < length l → slice_get l j ≡ Some None) e out)

-- the last of those that are out
none_last : (k : ℕ) → replicate {A = Option SeatView} (suc k) None ++ [] ≡ replicate k None ++ None ∷ []
none_last zero = refl
none_last (suc k) = ap (λ l. None ∷ l) (none_last k)

none_len : (k : ℕ) → length (replicate {A = Option SeatView} k None) ≡ k
none_len zero = refl
none_len (suc k) = ap suc (none_len k)

-- That one is taken, and comes back with what it has done.
module _ (trace : Recording) (k : ℕ) (s n : SeatsView) (c last : SeatView) (t : TakesFirst s c n) (by : SearchesBy trace c last) (same : last.number ≡ c.number) (new : List (Option SeatView)) (put : slice_get n.rows (last.number - 1) ≡ Some None → new ≡ slice_set n.rows (last.number - 1) (Some last)) where
  one_back : s.rows ≡ replicate k None ++ Some (fresh_seat s.site (suc k)) ∷ [] → SearchesBy trace (fresh_seat s.site (suc k)) last × (new ≡ replicate k None ++ Some last ∷ [])
  one_back e =
      let first = fresh_seat s.site (suc k) in
      let p = c.number - 1 in
      let step = first_taken k first [] p c (subst (λ l. slice_get l p ≡ Some (Some c)) e t.there) (λ j below. subst (λ l. slice_get l j ≡ Some None) e (t.least j below)) in
      let out : n.rows ≡ replicate k None ++ None ∷ [] = ap (λ (x : SeatsView). x.rows) t.out ∙ ap (λ l. slice_set l p None) e ∙ step.1 ∙ none_last k in
      let number : c.number ≡ suc k = ap (λ (x : SeatView). x.number) step.0 in
      let long = none_len k in
      let place : last.number - 1 ≡ length (replicate {A = Option SeatView} k None) = omega (arith, same, number, long) in
      let vacant : slice_get n.rows (last.number - 1) ≡ Some None = ap (slice_get n.rows) place ∙ ap (λ l. slice_get l (length (replicate {A = Option SeatView} k None))) out ∙ get_at (replicate k None) None [] in
      let back =
      put vacant
      ∙ ap (λ i. slice_set n.rows i (Some last)) place
      ∙ ap (λ l. slice_set l (length (replicate {A = Option SeatView} k None)) (Some last)) out
      ∙ set_at (replicate k None) None (Some last) []
      ∙ append-nil (replicate k None ++ Some last ∷ []) in
      (subst (λ x. SearchesBy trace x last) step.0 by, back)

  pub behind-back : (workers : ℕ) → ¬ (workers ≡ 0) → s.rows ≡ replicate k None ++ fresh_rows s.site (suc k) (further_clients workers)
      → (rest : List (Option SeatView)) × AreBehind workers trace s.site (suc k) rest × (new ≡ replicate k None ++ rest)
  behind-back zero some e = absurd (some refl)
  behind-back (suc workers) some e = let back = one_back e in (Some last ∷ [], (last, back.0, refl), back.1)
