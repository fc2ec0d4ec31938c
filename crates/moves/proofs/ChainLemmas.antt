-- A command that no later one touches can be left out.
use Rattle.std.proofs.Common.{◌≡◌, ◌≢◌, inl, inr, ℕ, ◌+◌, ◌<◌, ◌≤◌, false, eqb, leb, List, [], ◌∷◌, ◌++◌, Option, Some, None, Result, Ok, All, length, slice_get, refl, sym, ap, ◌∙◌, subst, arith}
use Rattle.std.specs.Map.{remove_entry}
use Rattle.std.specs.Result.{IfOk}
use Rattle.std.specs.Option.{IfSome}
use Rattle.std.proofs.lemmas.Bool.{cond_both, or_parts}
use Rattle.std.proofs.lemmas.List.Elements.{All-cons, All-head, All-tail, All-weaker}
use Rattle.std.proofs.lemmas.Map.Entries.{All-lookup}
use Rattle.moves.specs.declared.row.Row.{Row}
use Rattle.moves.specs.declared.command.Command.{Command}
use Rattle.moves.specs.declared.command.Command.TheVariants.{Fresh, Add, Back, Swap, Branch, Drop, Adopt}
use Rattle.moves.specs.declared.refusal.MoveRefusal.{MoveRefusal}
use Rattle.moves.specs.Rows.{Rows, row_of, IsListing, with_row, IsFree}
use Rattle.moves.specs.Commands.{writes, reads, touches}
use Rattle.moves.specs.Moves.{made, made_at, added, swapped, adopted}
use Rattle.moves.specs.Rows.{Below}
use Rattle.moves.specs.Fold.{Numbered, Leads, Rises}
use Rattle.moves.proofs.RowLemmas.{All-removed, All-put, free_from_all, with_row-same, with_row-other, listing-with_row}
use Rattle.std.specs.Str.{bytes_eq}
use Rattle.moves.proofs.NameLemmas.{bytes-false, bytes_tells}
use Rattle.rapid_text.specs.Recording.{Recording}
use Rattle.schedule.specs.declared.refusal.Disabled.{Disabled}
use Rattle.schedule.specs.declared.refusal.SwapRefusal.{SwapRefusal}
use Rattle.schedule.specs.Refusals.{refusal_of}
use Rattle.schedule.specs.Swaps.{swap_refusal}
use Rattle.moves.specs.declared.board.Proposal.{Proposal}

-- a row keeps its birth, and a new one has the number
abbrev pub Keeps : ℕ → Option Row → Option Row → Type 0
Keeps n mine None = Unit {0}
Keeps n None (Some r) = r.birth ≡ n
Keeps n (Some m) (Some r) = r.birth ≡ m.birth

added_keeps : (n : ℕ) (r : Row) (e : ℕ) (q : Option Disabled) → IfOk (added r e q) (Keeps n (Some r))
added_keeps n r e None = refl
added_keeps n r e (Some cause) = tt

swapped_keeps : (n : ℕ) (r : Row) (i : ℕ) (q : Option SwapRefusal) → IfOk (swapped r i q) (Keeps n (Some r))
swapped_keeps n r i None = refl
swapped_keeps n r i (Some cause) = tt

adopted_keeps : (n : ℕ) (r : Row) (q : Option Proposal) → IfOk (adopted r q) (Keeps n (Some r))
adopted_keeps n r None = tt
adopted_keeps n r (Some p) = refl

made_keeps : (T : Recording) (B : List Proposal) (n : ℕ) (d : Command) (mine theirs : Option Row) → IfOk (made T B n d mine theirs) (Keeps n mine)
made_keeps T B n (Fresh x) None theirs = refl
made_keeps T B n (Fresh x) (Some r) theirs = tt
made_keeps T B n (Add x e) None theirs = tt
made_keeps T B n (Add x e) (Some r) theirs = added_keeps n r e (refusal_of T.events r.schedule.events e)
made_keeps T B n (Swap x i) None theirs = tt
made_keeps T B n (Swap x i) (Some r) theirs = swapped_keeps n r i (swap_refusal T.events r.schedule.events i)
made_keeps T B n (Back x) None theirs = tt
made_keeps T B n (Back x) (Some r) theirs = cond_both (eqb (length r.schedule.events) 0) _ _ (λ (o : Result (Option Row) MoveRefusal). IfOk o (Keeps n (Some r))) (λ _. tt) (λ _. refl)
made_keeps T B n (Branch x k to) None None = tt
made_keeps T B n (Branch x k to) (Some r) None = tt
made_keeps T B n (Branch x k to) (Some r) (Some s) = tt
made_keeps T B n (Branch x k to) None (Some s) = cond_both (leb k (length s.schedule.events)) _ _ (λ (o : Result (Option Row) MoveRefusal). IfOk o (Keeps n None)) (λ _. refl) (λ _. tt)
made_keeps T B n (Drop x) None theirs = tt
made_keeps T B n (Drop x) (Some r) theirs = tt
made_keeps T B n (Adopt x p) None theirs = tt
made_keeps T B n (Adopt x p) (Some r) theirs = adopted_keeps n r (slice_get B p)

pub keeps_birth : (T : Recording) (B : List Proposal) (n : ℕ) (d : Command) (mine theirs o : Option Row) → made T B n d mine theirs ≡ Ok o → Keeps n mine o
keeps_birth T B n d mine theirs o e = subst (λ (q : Result (Option Row) MoveRefusal). IfOk q (Keeps n mine)) e (made_keeps T B n d mine theirs)

-- a row's birth is no other row's
pub others_differ : (W : Rows) (x : List ℕ) (m : Row) → IsListing W → row_of W x ≡ Some m → All (λ (q : List ℕ × Row). q.1.birth ≢ m.birth) (remove_entry (bytes_eq x) W)
others_differ [] x m l at = absurd cc
others_differ (p ∷ W) x m l at = elim (bytes_tells x p.0) [
  | inl h ↦
      let here : row_of (p ∷ W) x ≡ Some p.1 = rw h.0 refl in
      let same : p.1 ≡ m = cc in
      rw h.0 (All-weaker (λ (q : List ℕ × Row). p.1.birth < q.1.birth) (λ (q : List ℕ × Row). q.1.birth ≢ m.birth) (λ q g e. let b : p.1.birth ≡ m.birth = ap (λ (r : Row). r.birth) same in absurd (omega arith)) W l.1)
  | inr h ↦
      let past : row_of W x ≡ Some m = rw h.0 at at in
      let later : p.1.birth < m.birth = subst (λ o. IfSome o (λ (r : Row). p.1.birth < r.birth)) past (All-lookup (λ (r : Row). p.1.birth < r.birth) (bytes_eq x) W l.1) in
      rw h.0 (All-cons (λ (q : List ℕ × Row). q.1.birth ≢ m.birth) p (remove_entry (bytes_eq x) W) (λ e. absurd (omega arith)) (others_differ W x m l.2 past))
]

keeps_free : (n : ℕ) (W : Rows) (x : List ℕ) (mine o : Option Row) → IsListing W → Below n W → row_of W x ≡ mine → Keeps n mine o → IsFree W x o
keeps_free n W x mine None l low at k = tt
keeps_free n W x None (Some r) l low at k = free_from_all W x r (All-removed (λ (q : List ℕ × Row). q.1.birth ≢ r.birth) W x (All-weaker (λ (q : List ℕ × Row). q.1.birth < n) (λ (q : List ℕ × Row). q.1.birth ≢ r.birth) (λ q g e. let b : r.birth ≡ n = k in absurd (omega arith)) W low))
keeps_free n W x (Some m) (Some r) l low at k = free_from_all W x r (subst (λ b. All (λ (q : List ℕ × Row). q.1.birth ≢ b) (remove_entry (bytes_eq x) W)) (sym k) (others_differ W x m l at))

keeps_below : (n : ℕ) (W : Rows) (x : List ℕ) (mine o : Option Row) → Below n W → row_of W x ≡ mine → Keeps n mine o → Below (n + 1) (with_row W x o)
keeps_below n W x mine o low at k = by mine o at k
  where
    more : Below (n + 1) (remove_entry (bytes_eq x) W)
    more = All-removed (λ (q : List ℕ × Row). q.1.birth < n + 1) W x (All-weaker (λ (q : List ℕ × Row). q.1.birth < n) (λ (q : List ℕ × Row). q.1.birth < n + 1) (λ q g. omega arith) W low)

    by : (mine o : Option Row) → row_of W x ≡ mine → Keeps n mine o → Below (n + 1) (with_row W x o)
    by mine None at k = more
    by None (Some r) at k = All-put (λ (q : List ℕ × Row). q.1.birth < n + 1) (remove_entry (bytes_eq x) W) x r (let b : r.birth ≡ n = k in omega arith) more
    by (Some m) (Some r) at k =
        let was : m.birth < n = subst (λ o. IfSome o (λ (r : Row). r.birth < n)) at (All-lookup (λ (r : Row). r.birth < n) (bytes_eq x) W low) in
        All-put (λ (q : List ℕ × Row). q.1.birth < n + 1) (remove_entry (bytes_eq x) W) x r (let b : r.birth ≡ m.birth = k in omega arith) more

-- the rows are listed, with births below n
pub record IsPlain (n : ℕ) (W : Rows) : Type 0 where
  pub listing : IsListing W
  pub low : Below n W

pub plain_more : (n m : ℕ) (W : Rows) → n ≤ m → IsPlain n W → IsPlain m W
plain_more n m W h p = record { listing = p.listing; low = All-weaker (λ (q : List ℕ × Row). q.1.birth < n) (λ (q : List ℕ × Row). q.1.birth < m) (λ q g. omega arith) W p.low }

pub made_free : (T : Recording) (B : List Proposal) (n : ℕ) (d : Command) (W : Rows) (o : Option Row) → IsPlain n W → made_at T B n d W ≡ Ok o → IsFree W (writes d) o
made_free T B n d W o p e = keeps_free n W (writes d) (row_of W (writes d)) o p.listing p.low refl (keeps_birth T B n d (row_of W (writes d)) (row_of W (reads d)) o e)

pub plain_step : (T : Recording) (B : List Proposal) (n : ℕ) (d : Command) (W : Rows) (o : Option Row) → IsPlain n W → made_at T B n d W ≡ Ok o → IsPlain (n + 1) (with_row W (writes d) o)
plain_step T B n d W o p e = record {
  listing = listing-with_row W (writes d) o p.listing (made_free T B n d W o p e);
  low = keeps_below n W (writes d) (row_of W (writes d)) o p.low refl (keeps_birth T B n d (row_of W (writes d)) (row_of W (reads d)) o e);
}

module _ (T : Recording) (B : List Proposal) (R : Numbered → Option Row → Option Row → Type 0) where
  pub plain_end : (E : List Numbered) (W V : Rows) (low high : ℕ) → IsPlain low W → Rises low E high → Leads T B R W E V → IsPlain high V
  plain_end [] W V low high p r leads = subst (IsPlain high) leads (plain_more low high W r p)
  plain_end (e ∷ E) W V low high p r leads =
      plain_end E (with_row W (writes e.1) leads.0) V (e.0 + 1) high (plain_step T B e.0 e.1 W leads.0 (plain_more low e.0 W r.0 p) leads.1) r.1 leads.3

  pub leads_split : (E F : List Numbered) (W V : Rows) → Leads T B R W (E ++ F) V → (U : Rows) × Leads T B R W E U × Leads T B R U F V
  leads_split [] F W V leads = (W, refl, leads)
  leads_split (e ∷ E) F W V leads =
      let rest = leads_split E F (with_row W (writes e.1) leads.0) V leads.3 in
      (rest.0, (leads.0, leads.1, leads.2, rest.1), rest.2)

  pub leads_join : (E F : List Numbered) (W U V : Rows) → Leads T B R W E U → Leads T B R U F V → Leads T B R W (E ++ F) V
  leads_join [] F W U V one two = subst (λ S. Leads T B R S F V) (sym one) two
  leads_join (e ∷ E) F W U V one two = (one.0, one.1, one.2, leads_join E F (with_row W (writes e.1) one.0) U V one.3 two)

  -- rows that agree at all names but x
  abbrev pub Agree : List ℕ → Rows → Rows → Type 0
  Agree x W U = (y : List ℕ) → y ≢ x → row_of U y ≡ row_of W y

  agree_step : (x z : List ℕ) (W U : Rows) (o : Option Row) → IsListing W → IsListing U → Agree x W U → Agree x (with_row W z o) (with_row U z o)
  agree_step x z W U o lw lu agree y apart = elim (bytes_tells y z) [
    | inl h ↦ rw h.1 (with_row-same U z o lu ∙ sym (with_row-same W z o lw))
    | inr h ↦ with_row-other U z y o h.1 ∙ agree y apart ∙ sym (with_row-other W z y o h.1)
  ]

  -- what commands that do not touch x do elsewhere they do as well whatever the row of x is
  pub record Apart (x : List ℕ) (U V : Rows) (E : List Numbered) (W : Rows) : Type 0 where
    pub rows : Rows
    pub leads : Leads T B R U E rows
    pub agree : Agree x V rows
    pub here : row_of rows x ≡ row_of U x
    pub stays : row_of V x ≡ row_of W x

  pub apart : (x : List ℕ) (E : List Numbered) (W U V : Rows) (low high : ℕ) → IsPlain low W → IsPlain low U → Agree x W U → Rises low E high
      → All (λ (e : Numbered). touches e.1 x ≡ false) E → Leads T B R W E V → Apart x U V E W
  apart x [] W U V low high pw pu agree r clear leads = record {
    rows = U;
    leads = refl;
    agree = subst (λ S. Agree x S U) leads agree;
    here = refl;
    stays = ap (λ S. row_of S x) (sym leads);
  }
  apart x (e ∷ E) W U V low high pw pu agree r clear leads =
      let o = leads.0 in
      let free = or_parts (bytes_eq (writes e.1) x) (bytes_eq (reads e.1) x) (All-head (λ (e : Numbered). touches e.1 x ≡ false) e E clear) in
      let mine : row_of U (writes e.1) ≡ row_of W (writes e.1) = agree (writes e.1) (bytes-false (writes e.1) x free.0) in
      let theirs : row_of U (reads e.1) ≡ row_of W (reads e.1) = agree (reads e.1) (bytes-false (reads e.1) x free.1) in
      let makes : made_at T B e.0 e.1 U ≡ Ok o = rw (mine, theirs) leads.1 in
      let w' = with_row W (writes e.1) o in
      let u' = with_row U (writes e.1) o in
      let other : x ≢ writes e.1 = λ s. bytes-false (writes e.1) x free.0 (sym s) in
      let rest = apart x E w' u' V (e.0 + 1) high
      (plain_step T B e.0 e.1 W o (plain_more low e.0 W r.0 pw) leads.1)
      (plain_step T B e.0 e.1 U o (plain_more low e.0 U r.0 pu) makes)
      (agree_step x (writes e.1) W U o pw.listing pu.listing agree) r.1
      (All-tail (λ (e : Numbered). touches e.1 x ≡ false) e E clear) leads.3 in
      record {
        rows = rest.rows;
        leads = (o, makes, rw mine leads.2, rest.leads);
        agree = rest.agree;
        here = rest.here ∙ with_row-other U (writes e.1) x o other;
        stays = rest.stays ∙ with_row-other W (writes e.1) x o other;
      }
