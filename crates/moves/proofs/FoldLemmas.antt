-- The same as a fold; other facts kept; a longer board.
use Rattle.std.proofs.Common.{◌≡◌, ℕ, zero, suc, ◌+◌, List, [], ◌∷◌, ◌++◌, Option, Some, None, Result, Ok, Err, All, slice_get, fold, refl, sym, ap, ◌∙◌}
use Rattle.std.specs.Result.{result_ok}
use Rattle.std.proofs.lemmas.List.Elements.{All-head, All-tail}
use Rattle.moves.specs.declared.row.Row.{Row}
use Rattle.moves.specs.declared.command.Command.{Command}
use Rattle.moves.specs.declared.command.Command.TheVariants.{Fresh, Add, Back, Swap, Branch, Drop, Adopt}
use Rattle.moves.specs.declared.refusal.MoveRefusal.{MoveRefusal}
use Rattle.moves.specs.Rows.{Rows, row_of, with_row}
use Rattle.moves.specs.Commands.{writes, reads}
use Rattle.moves.specs.Moves.{made, made_at, applied, put_made, adopted}
use Rattle.moves.specs.Batches.{goes_from, applied_from}
use Rattle.moves.specs.Fold.{Numbered, numbered, goes_on, Leads}
use Rattle.rapid_text.specs.Recording.{Recording}
use Rattle.moves.specs.declared.board.Proposal.{Proposal}

abbrev pub Nothing : Numbered → Option Row → Option Row → Type 0
Nothing e before after = Unit {0}

-- where the rows are led to, the fold is defined, and the other way round
fold_none : (T : Recording) (B : List Proposal) (E : List Numbered) → fold (goes_on T B) None E ≡ None
fold_none T B [] = refl
fold_none T B (e ∷ E) = fold_none T B E

pub fold_from_leads : (T : Recording) (B : List Proposal) (R : Numbered → Option Row → Option Row → Type 0) (E : List Numbered) (W V : Rows) → Leads T B R W E V → fold (goes_on T B) (Some W) E ≡ Some V
fold_from_leads T B R [] W V leads = ap Some leads
fold_from_leads T B R (e ∷ E) W V leads =
    let one : applied T B e.0 e.1 W ≡ Ok (with_row W (writes e.1) leads.0) = ap (put_made W (writes e.1)) leads.1 in
    ap (λ q. fold (goes_on T B) (result_ok q) E) one ∙ fold_from_leads T B R E (with_row W (writes e.1) leads.0) V leads.3

leads_cases : (T : Recording) (B : List Proposal) (e : Numbered) (E : List Numbered) (W V : Rows) (q : Result (Option Row) MoveRefusal) → made_at T B e.0 e.1 W ≡ q → fold (goes_on T B) (result_ok (put_made W (writes e.1) q)) E ≡ Some V
    → (o : Option Row) × (made_at T B e.0 e.1 W ≡ Ok o) × (fold (goes_on T B) (Some (with_row W (writes e.1) o)) E ≡ Some V)
leads_cases T B e E W V (Ok o) is h = (o, is, h)
leads_cases T B e E W V (Err why) is h = let none : fold (goes_on T B) None E ≡ None = fold_none T B E in absurd cc

pub leads_from_fold : (T : Recording) (B : List Proposal) (E : List Numbered) (W V : Rows) → fold (goes_on T B) (Some W) E ≡ Some V → Leads T B Nothing W E V
leads_from_fold T B [] W V h = cc
leads_from_fold T B (e ∷ E) W V h =
    let one = leads_cases T B e E W V (made_at T B e.0 e.1 W) refl h in
    (one.0, one.1, tt, leads_from_fold T B E (with_row W (writes e.1) one.0) V one.2)

-- another fact at each command
pub leads_other : (T : Recording) (B : List Proposal) (R S : Numbered → Option Row → Option Row → Type 0) (E : List Numbered) (W V : Rows)
    → All (λ (e : Numbered). (b a : Option Row) → R e b a → S e b a) E → Leads T B R W E V → Leads T B S W E V
leads_other T B R S [] W V all leads = leads
leads_other T B R S (e ∷ E) W V all leads = (
  leads.0,
  leads.1,
  All-head (λ (e : Numbered). (b a : Option Row) → R e b a → S e b a) e E all (row_of W (writes e.1)) leads.0 leads.2,
  leads_other T B R S E (with_row W (writes e.1) leads.0) V (All-tail (λ (e : Numbered). (b a : Option Row) → R e b a → S e b a) e E all) leads.3,
)

pub get_longer : {X : Type 0} (B C : List X) (p : ℕ) (x : X) → slice_get B p ≡ Some x → slice_get (B ++ C) p ≡ Some x
get_longer [] C p x at = absurd cc
get_longer (b ∷ B) C zero x at = at
get_longer (b ∷ B) C (suc p) x at = get_longer B C p x at

-- a longer board accepts what was accepted
still_there : (T : Recording) (B C : List Proposal) (p : ℕ) (r : Row) (o : Option Row) (q : Option Proposal) → slice_get B p ≡ q → adopted r q ≡ Ok o → adopted r (slice_get (B ++ C) p) ≡ Ok o
still_there T B C p r o None at h = absurd cc
still_there T B C p r o (Some P) at h = ap (adopted r) (get_longer B C p P at) ∙ h

pub made_longer : (T : Recording) (B C : List Proposal) (n : ℕ) (d : Command) (mine theirs o : Option Row) → made T B n d mine theirs ≡ Ok o → made T (B ++ C) n d mine theirs ≡ Ok o
made_longer T B C n (Adopt x p) (Some r) theirs o h = still_there T B C p r o (slice_get B p) refl h
made_longer T B C n (Adopt x p) None theirs o h = h
made_longer T B C n (Fresh x) mine theirs o h = h
made_longer T B C n (Add x e) mine theirs o h = h
made_longer T B C n (Swap x i) mine theirs o h = h
made_longer T B C n (Back x) mine theirs o h = h
made_longer T B C n (Branch x k to) mine theirs o h = h
made_longer T B C n (Drop x) mine theirs o h = h

pub leads_longer : (T : Recording) (B C : List Proposal) (R : Numbered → Option Row → Option Row → Type 0) (E : List Numbered) (W V : Rows) → Leads T B R W E V → Leads T (B ++ C) R W E V
leads_longer T B C R [] W V leads = leads
leads_longer T B C R (e ∷ E) W V leads = (
  leads.0,
  made_longer T B C e.0 e.1 (row_of W (writes e.1)) (row_of W (reads e.1)) leads.0 leads.1,
  leads.2,
  leads_longer T B C R E (with_row W (writes e.1) leads.0) V leads.3,
)

-- the rows that commands lead to are determined
pub leads_once : (T : Recording) (B : List Proposal) (R S : Numbered → Option Row → Option Row → Type 0) (E : List Numbered) (W U V : Rows) → Leads T B R W E U → Leads T B S W E V → U ≡ V
leads_once T B R S E W U V one two = let f : Some U ≡ Some V = sym (fold_from_leads T B R E W U one) ∙ fold_from_leads T B S E W V two in cc

-- a batch that is applied leads where its commands do
batch_cases : (T : Recording) (B : List Proposal) (n k : ℕ) (d : Command) (D : List Command) (W V : Rows) (q : Result (Option Row) MoveRefusal) → made_at T B n d W ≡ q → goes_from k (λ S. applied_from T B (n + 1) (k + 1) D S) (put_made W (writes d) q) ≡ Ok V
    → (o : Option Row) × (made_at T B n d W ≡ Ok o) × (applied_from T B (n + 1) (k + 1) D (with_row W (writes d) o) ≡ Ok V)
batch_cases T B n k d D W V (Ok o) is h = (o, is, h)
batch_cases T B n k d D W V (Err why) is h = absurd cc

pub leads_from_batch : (T : Recording) (B : List Proposal) (D : List Command) (n k : ℕ) (W V : Rows) → applied_from T B n k D W ≡ Ok V → Leads T B Nothing W (numbered n D) V
leads_from_batch T B [] n k W V h = cc
leads_from_batch T B (d ∷ D) n k W V h =
    let one = batch_cases T B n k d D W V (made_at T B n d W) refl h in
    (one.0, one.1, tt, leads_from_batch T B D (n + 1) (k + 1) (with_row W (writes d) one.0) V one.2)
