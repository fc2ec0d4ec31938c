-- Numbers put under, and taken from, the names of several commands.
use Rattle.std.proofs.Common.{◌≡◌, ◌≢◌, ◌⊎◌, ◌++◌, ◌||◌, All, ℕ, zero, suc, ◌+◌, ◌<◌, Bool, true, false, true≢false, cond, eqb, List, [], ◌∷◌, Result, length, take, get_or, refl, sym, ap, subst, ◌∙◌, arith, inl, inr}
use Rattle.std.specs.BTreeSet.{insert_key}
use Rattle.std.specs.List.{list_any}
use Rattle.std.specs.Result.{OnOk}
use Rattle.std.specs.Ordering.{nat_cmp, match_ordering}
use Rattle.std.specs.declared.cmp.Ordering.TheVariants.{Equal, Greater}
use Rattle.std.specs.Cmp.{nat_cmp_is}
use Rattle.std.proofs.Math.Seq.{take-suc}
use Rattle.std.proofs.lemmas.Bool.{or_parts}
use Rattle.std.proofs.lemmas.List.Elements.{All-head, All-tail, All-weaker}
use Rattle.std.proofs.lemmas.List.Folds.{list_any-append}
use Rattle.moves.specs.declared.command.Command.{Command}
use Rattle.moves.specs.Commands.{touches, touches_any}
use Rattle.dependence.specs.Lists.{Lists, under, without, Pushed, PushedAll}
use Rattle.dependence.proofs.CallerLemmas.{without_last, without_other}
use Rattle.dependence.proofs.PlaceLemmas.{on_ok}
use Rattle.dependence.proofs.RisingLemmas.{insert_last}

-- the last number, put there again
pub insert_there : (k : ℕ) (xs : List ℕ) → All (λ j. j < k) xs → insert_key nat_cmp (xs ++ k ∷ []) k ≡ xs ++ k ∷ []
insert_there k [] all = subst (λ r. match_ordering r (k ∷ k ∷ []) (k ∷ []) (k ∷ k ∷ []) ≡ k ∷ []) (nat_cmp_is k k Equal refl) refl
insert_there k (x ∷ xs) all =
    subst
    (λ r. match_ordering r (k ∷ x ∷ (xs ++ k ∷ [])) (x ∷ (xs ++ k ∷ [])) (x ∷ insert_key nat_cmp (xs ++ k ∷ []) k) ≡ x ∷ (xs ++ k ∷ []))
    (nat_cmp_is k x Greater (All-head (λ j. j < k) x xs all))
    (ap (λ ys. x ∷ ys) (insert_there k xs (All-tail (λ j. j < k) x xs all)))

or_none : (b : Bool) → (b || false) ≡ b
or_none true = refl
or_none false = refl

-- what one more command touches
pub touches_next : (D : List Command) (i : ℕ) (d : Command) (x : List ℕ) → i < length D → d ≡ get_or D i d → touches_any (take (i + 1) D) x ≡ (touches_any (take i D) x || touches d x)
touches_next D i d x within at =
    let up : i + 1 ≡ suc i = omega arith in
    let more : take (i + 1) D ≡ take i D ++ d ∷ [] = ap (λ k. take k D) up ∙ take-suc D i d within ∙ ap (λ e. take i D ++ e ∷ []) (sym at) in
    ap (λ E. touches_any E x) more ∙ list_any-append (λ e. touches e x) (take i D) (d ∷ []) ∙ ap (λ b. touches_any (take i D) x || b) (or_none (touches d x))

-- the number is put under one more command's names
pub placed_next : (b t c : Bool) (k : ℕ) (xs o n : List ℕ) → All (λ j. j < k) xs → c ≡ (b || t) → o ≡ cond b (xs ++ k ∷ []) xs → n ≡ cond t (insert_key nat_cmp o k) o → n ≡ cond c (xs ++ k ∷ []) xs
placed_next true true c k xs o n low is was now = rw is (now ∙ ap (λ ys. insert_key nat_cmp ys k) was ∙ insert_there k xs low)
placed_next true false c k xs o n low is was now = rw is (now ∙ was)
placed_next false true c k xs o n low is was now = rw is (now ∙ ap (λ ys. insert_key nat_cmp ys k) was ∙ insert_last k xs low)
placed_next false false c k xs o n low is was now = rw is (now ∙ was)

-- a number that was put under some of the names, and taken from all of them
pub taken_out : (b : Bool) (k : ℕ) (xs o n : List ℕ) → All (λ j. j < k) xs → ((o ≡ xs) ⊎ ((b ≡ true) × (o ≡ xs ++ k ∷ []))) → n ≡ cond b (without k o) o → n ≡ xs
taken_out true k xs o n low (inl same) now = now ∙ ap (without k) same ∙ without_other k xs (All-weaker (λ j. j < k) (λ j. j ≢ k) (λ j h e. absurd (omega arith)) xs low)
taken_out true k xs o n low (inr put) now = now ∙ ap (without k) put.1 ∙ without_last k xs low
taken_out false k xs o n low (inl same) now = now ∙ same
taken_out false k xs o n low (inr put) now = absurd (true≢false (sym put.0))

or_left : (a b : Bool) → a ≡ true → (a || b) ≡ true
or_left true b h = refl
or_left false b h = absurd (true≢false (sym h))

or_right : (a b : Bool) → b ≡ true → (a || b) ≡ true
or_right true b h = refl
or_right false b h = h

or_more : (a b c : Bool) → (b ≡ true → c ≡ true) → (a || b) ≡ true → (a || c) ≡ true
or_more true b c f h = refl
or_more false b c f h = f h

-- a number that is not there is not taken out
without_gone : (k : ℕ) (xs : List ℕ) → list_any (eqb k) xs ≡ false → without k xs ≡ xs
without_gone k [] gone = refl
without_gone k (x ∷ xs) gone = let parts = or_parts (eqb k x) (list_any (eqb k) xs) gone in rw parts.0 (ap (λ ys. x ∷ ys) (without_gone k xs parts.1))

-- and taken from them; where it was taken before, it is there no more
pub removed_next : (b t c : Bool) (k : ℕ) (xs o n : List ℕ) → (b ≡ true → list_any (eqb k) o ≡ false) → c ≡ (b || t) → o ≡ cond b (without k xs) xs → n ≡ cond t (without k o) o → n ≡ cond c (without k xs) xs
removed_next true true c k xs o n gone is was now = rw is (now ∙ without_gone k o (gone refl) ∙ was)
removed_next true false c k xs o n gone is was now = rw is (now ∙ was)
removed_next false true c k xs o n gone is was now = rw is (now ∙ ap (without k) was)
removed_next false false c k xs o n gone is was now = rw is (now ∙ was)

-- it stays away
pub gone_next : (b t c : Bool) (k : ℕ) (o n : List ℕ) → (b ≡ true → list_any (eqb k) o ≡ false) → (t ≡ true → list_any (eqb k) n ≡ false) → c ≡ (b || t) → n ≡ cond t (without k o) o → c ≡ true → list_any (eqb k) n ≡ false
gone_next b true c k o n before after is now h = after refl
gone_next true false c k o n before after is now h = ap (list_any (eqb k)) now ∙ before refl
gone_next false false c k o n before after is now h = absurd (true≢false (sym h ∙ is))

-- whether some of the commands touch x, told by those before one of them, by it and by those after it
any_more : (D : List Command) (i : ℕ) (d : Command) (x : List ℕ) → i < length D → d ≡ get_or D i d → (touches_any (take i D) x ≡ true → touches_any D x ≡ true) × (touches d x ≡ true → touches_any D x ≡ true)
any_more [] i d x within at = absurd (omega arith)
any_more (e ∷ D) zero d x within at = (λ h. absurd (true≢false (sym h)), λ h. or_left (touches e x) (touches_any D x) (ap (λ c. touches c x) (sym at) ∙ h))
any_more (e ∷ D) (suc i) d x within at =
    let rest = any_more D i d x (omega arith) at in
    (λ h. or_more (touches e x) (touches_any (take i D) x) (touches_any D x) rest.0 h, λ h. or_right (touches e x) (touches_any D x) (rest.1 h))

-- a number that was put under some names of a command
pub placed_out : (D : List Command) (i : ℕ) (d : Command) (x : List ℕ) (k : ℕ) (xs o m n : List ℕ) → i < length D → d ≡ get_or D i d → All (λ j. j < k) xs → o ≡ cond (touches_any (take i D) x) (xs ++ k ∷ []) xs
    → ((m ≡ o) ⊎ ((touches d x ≡ true) × (m ≡ insert_key nat_cmp o k))) → n ≡ cond (touches_any D x) (without k m) m → n ≡ xs
placed_out D i d x k xs o m n within at low was placed now = taken_out (touches_any D x) k xs m n low (by (touches_any (take i D) x) refl placed) now
  where
    some : (touches_any (take i D) x ≡ true → touches_any D x ≡ true) × (touches d x ≡ true → touches_any D x ≡ true)
    some = any_more D i d x within at

    by : (b : Bool) → touches_any (take i D) x ≡ b → ((m ≡ o) ⊎ ((touches d x ≡ true) × (m ≡ insert_key nat_cmp o k))) → (m ≡ xs) ⊎ ((touches_any D x ≡ true) × (m ≡ xs ++ k ∷ []))
    by true is (inl same) = inr (some.0 is, same ∙ was ∙ ap (λ b. cond b (xs ++ k ∷ []) xs) is)
    by false is (inl same) = inl (same ∙ was ∙ ap (λ b. cond b (xs ++ k ∷ []) xs) is)
    by true is (inr put) = inr (some.0 is, put.1 ∙ ap (λ ys. insert_key nat_cmp ys k) (was ∙ ap (λ b. cond b (xs ++ k ∷ []) xs) is) ∙ insert_there k xs low)
    by false is (inr put) = inr (some.1 put.0, put.1 ∙ ap (λ ys. insert_key nat_cmp ys k) (was ∙ ap (λ b. cond b (xs ++ k ∷ []) xs) is) ∙ insert_last k xs low)

-- put under the names of one command
pub pushed_one : {A E : Type 0} (r : Result A E) (k : ℕ) (D : List Command) (d : Command) (T U : Lists) → D ≡ d ∷ [] → OnOk r (PushedAll k D T U) → OnOk r (Pushed k d T U)
pushed_one r k D d T U same = on_ok r (PushedAll k D T U) (Pushed k d T U) (λ pushed x. pushed x ∙ ap (λ b. cond b (under T x ++ k ∷ []) (under T x)) (ap (λ E. touches_any E x) same ∙ or_none (touches d x)))
