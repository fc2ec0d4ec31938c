-- What is read of the lines of a text, one by one.
use Rattle.std.proofs.Common.{◌≡◌, ℕ, suc, ◌+◌, ◌≤◌, Bool, true, false, cond, not, List, [], ◌∷◌, ◌++◌, length, take, drop, filter, get_or, min, max, Contains, Vec, Option, Some, None, refl, sym, ap, ◌∙◌, subst, arith, inl, inr, true≢false}
use Rattle.std.specs.Prelude.{◌↔◌, ◌⊎◌, IfNone, IfSome, slice_index}
use Rattle.std.specs.Bool.{if◌then◌else◌}
use Rattle.std.specs.List.{before_first, list_any, position_or_len, slice_split}
use Rattle.std.proofs.lemmas.Map.Views.{list_any-from_Contains}
use Rattle.std.proofs.lemmas.List.Elements.{Contains-append_left, Contains-push_cases}
use Rattle.std.specs.declared.alloc.Global.{Global}
use denote.Ref.{Bor}
use Rattle.std.proofs.lemmas.Bool.{cases_lt}
use Rattle.indexmap.proofs.CallerLemmas.{Contains-insert_key, Contains-list_any}
use Rattle.indexmap.specs.IndexSet.{insert_key}
use Rattle.rapid_text.specs.Reading.{is_line_feed}
use Rattle.rapid_text.specs.Recording.{Recording}
use Rattle.race_groups.specs.Rows.{same_places}
use Rattle.race_groups.proofs.RowLemmas.{between_cases, same_places-equiv, same_places_are}
use Rattle.race_triage.specs.Blocks.{AreAhead, ArePair, IsAhead, IsNoted, IsPlace, IsReadUpTo, IsRead, IsTold}
use Rattle.race_triage.specs.Known.{accesses_in, is_access, is_head, AreFirstTwo, AllNamed, AreKnown, HasBlock, IsBlock, NamesRace, OnlyNamed}
use Rattle.race_triage.specs.Places.{AreNumbered, IsSpot}
use Rattle.race_triage.proofs.PlaceLemmas.{is_text, one_text}
use Rattle.race_triage.specs.declared.known.Block.{Block}
use Rattle.race_triage.specs.declared.known.Block.TheVariants.{Nothing, Race, First}

module _ {X : Type 0} (p : X → Bool) where
  -- what passes ends what stands before it
  before-cons_yes : (x : X) (xs : List X) → p x ≡ true → before_first p (x ∷ xs) ≡ []
  before-cons_yes x xs e = ap (λ c. take (cond (not c) (1 + position_or_len p xs) 0) (x ∷ xs)) e

  before-cons_no : (x : X) (xs : List X) → p x ≡ false → before_first p (x ∷ xs) ≡ x ∷ before_first p xs
  before-cons_no x xs e =
      let more : 1 + position_or_len p xs ≡ suc (position_or_len p xs) = omega arith in
      ap (λ c. take (cond (not c) (1 + position_or_len p xs) 0) (x ∷ xs)) e ∙ ap (λ n. take n (x ∷ xs)) more

-- two lists that are one have one first line, and the same lines behind it
first_same : (a b : List ℕ) (behind later : List (List ℕ)) → a ∷ behind ≡ b ∷ later → a ≡ b
first_same a b behind later e = ap (λ (ls : List (List ℕ)). get_or ls 0 []) e

rest_same : (a b : List ℕ) (behind later : List (List ℕ)) → a ∷ behind ≡ b ∷ later → behind ≡ later
rest_same a b behind later e = ap (λ (ls : List (List ℕ)). drop 1 ls) e

-- a block among lines begins with the first of them, or stands behind it
block_at : (line : List ℕ) (left before : List (List ℕ)) (head : List ℕ) (behind : List (List ℕ)) (one other : List ℕ)
    → line ∷ left ≡ before ++ head ∷ behind → is_head head ≡ true → AreFirstTwo behind one other
    → ((is_head line ≡ true) × AreFirstTwo left one other) ⊎ IsBlock left one other
block_at line left [] head behind one other whole race first =
    inl (ap is_head (first_same line head left behind whole) ∙ race, subst (λ ls. AreFirstTwo ls one other) (sym (rest_same line head left behind whole)) first)
block_at line left (b ∷ bs) head behind one other whole race first =
    inr (record { before = bs; head = head; behind = behind; whole = rest_same line b left (bs ++ head ∷ behind) whole; race = race; accesses = first })

-- no lines, no block
no_block : (before : List (List ℕ)) (head : List ℕ) (behind : List (List ℕ)) → ¬ ([] ≡ before ++ head ∷ behind)
no_block [] head behind e = absurd (omega (arith, ap length e))
no_block (b ∷ bs) head behind e = absurd (omega (arith, ap length e))

-- what is ahead in a block among the lines
pub IsAhead-block : (block : Block) (lines : List (List ℕ)) (one other : List ℕ) → IsBlock lines one other → IsAhead block lines one other
IsAhead-block Nothing lines one other is = is
IsAhead-block Race lines one other is = inr is
IsAhead-block (First line) lines one other is = inr is

module _ (line : List ℕ) (left : List (List ℕ)) where
  accesses_in-head : is_head line ≡ true → accesses_in (line ∷ left) ≡ []
  accesses_in-head holds = ap (filter is_access) (before-cons_yes is_head line left holds)

  accesses_in-more : is_head line ≡ false → is_access line ≡ true → accesses_in (line ∷ left) ≡ line ∷ accesses_in left
  accesses_in-more plain holds = ap (filter is_access) (before-cons_no is_head line left plain) ∙ ap (λ b. cond b (line ∷ accesses_in left) (accesses_in left)) holds

  accesses_in-same : is_head line ≡ false → is_access line ≡ false → accesses_in (line ∷ left) ≡ accesses_in left
  accesses_in-same plain also = ap (filter is_access) (before-cons_no is_head line left plain) ∙ ap (λ b. cond b (line ∷ accesses_in left) (accesses_in left)) also

  module _ (one other : List ℕ) where
    IsBlock-cases : IsBlock (line ∷ left) one other → ((is_head line ≡ true) × AreFirstTwo left one other) ⊎ IsBlock left one other
    IsBlock-cases is = block_at line left is.before is.head is.behind one other is.whole is.race is.accesses

    IsBlock-later : IsBlock left one other → IsBlock (line ∷ left) one other
    IsBlock-later is = record { before = line ∷ is.before; head = is.head; behind = is.behind; whole = ap (λ ls. line ∷ ls) is.whole; race = is.race; accesses = is.accesses }

    IsBlock-here : is_head line ≡ true → AreFirstTwo left one other → IsBlock (line ∷ left) one other
    IsBlock-here holds first = record { before = []; head = line; behind = left; whole = refl; race = holds; accesses = first }

    IsBlock-behind : is_head line ≡ false → IsBlock (line ∷ left) one other → IsBlock left one other
    IsBlock-behind plain is = elim (IsBlock-cases is) [ inl here ↦ absurd (true≢false (sym here.0 ∙ plain)) | inr later ↦ later ]

    -- at the first line of a block what was read of another one is over
    is_head-block : (block : Block) → is_head line ≡ true → IsAhead block (line ∷ left) one other → IsBlock (line ∷ left) one other
    is_head-block Nothing holds ahead = ahead
    is_head-block Race holds (inl first) = absurd (omega (arith, ap length (sym (accesses_in-head holds) ∙ first.1)))
    is_head-block Race holds (inr is) = is
    is_head-block (First f) holds (inl next) = absurd (omega (arith, ap length (sym (accesses_in-head holds) ∙ next.1.1)))
    is_head-block (First f) holds (inr is) = is

    pub read-head : (block : Block) → is_head line ≡ true → IsAhead block (line ∷ left) one other ↔ (⊥ ⊎ IsAhead Race left one other)
    read-head block holds = (
      λ ahead. elim (IsBlock-cases (is_head-block block holds ahead)) [ inl here ↦ inr (inl here.1) | inr later ↦ inr (inr later) ],
      λ h. IsAhead-block block (line ∷ left) one other (elim h [ inl none ↦ absurd none | inr ahead ↦ elim ahead [ inl first ↦ IsBlock-here holds first | inr is ↦ IsBlock-later is ] ]),
    )

    same_ahead : (block : Block) → is_head line ≡ false → is_access line ≡ false → IsAhead block (line ∷ left) one other → IsAhead block left one other
    same_ahead Nothing plain also ahead = IsBlock-behind plain ahead
    same_ahead Race plain also (inl first) = inl (first.0, sym (accesses_in-same plain also) ∙ first.1)
    same_ahead Race plain also (inr is) = inr (IsBlock-behind plain is)
    same_ahead (First f) plain also (inl next) = inl (next.0, (next.1.0, sym (accesses_in-same plain also) ∙ next.1.1))
    same_ahead (First f) plain also (inr is) = inr (IsBlock-behind plain is)

    same_back : (block : Block) → is_head line ≡ false → is_access line ≡ false → IsAhead block left one other → IsAhead block (line ∷ left) one other
    same_back Nothing plain also ahead = IsBlock-later ahead
    same_back Race plain also (inl first) = inl (first.0, accesses_in-same plain also ∙ first.1)
    same_back Race plain also (inr is) = inr (IsBlock-later is)
    same_back (First f) plain also (inl next) = inl (next.0, (next.1.0, accesses_in-same plain also ∙ next.1.1))
    same_back (First f) plain also (inr is) = inr (IsBlock-later is)

    pub read-same : (block : Block) → is_head line ≡ false → is_access line ≡ false → IsAhead block (line ∷ left) one other ↔ (⊥ ⊎ IsAhead block left one other)
    read-same block plain also = (
      λ ahead. inr (same_ahead block plain also ahead),
      λ h. elim h [ inl none ↦ absurd none | inr ahead ↦ same_back block plain also ahead ],
    )

    pub read-nothing : is_head line ≡ false → IsAhead Nothing (line ∷ left) one other ↔ (⊥ ⊎ IsAhead Nothing left one other)
    read-nothing plain = (
      λ ahead. inr (IsBlock-behind plain ahead),
      λ h. elim h [ inl none ↦ absurd none | inr ahead ↦ IsBlock-later ahead ],
    )

module _ (line : Bor (List ℕ)) (left : List (List ℕ)) (plain : is_head line.now ≡ false) (holds : is_access line.now ≡ true) (one other : List ℕ) where
  whole : accesses_in (line.now ∷ left) ≡ line.now ∷ accesses_in left
  whole = accesses_in-more line.now left plain holds

  pub read-first : IsAhead Race (line.now ∷ left) one other ↔ (⊥ ⊎ IsAhead (First line) left one other)
  read-first = (
    λ ahead. elim ahead [
      | inl first ↦
          let split = sym whole ∙ first.1 in
          inr (inl (first_same line.now one (accesses_in left) (other ∷ first.0) split, (first.0, rest_same line.now one (accesses_in left) (other ∷ first.0) split)))
      | inr is ↦ inr (inr (IsBlock-behind line.now left one other plain is))
    ],
    λ h. elim h [
      | inl none ↦ absurd none
      | inr ahead ↦ elim ahead [
        | inl next ↦ inl (next.1.0, whole ∙ ap (λ l. l ∷ accesses_in left) next.0 ∙ ap (λ ls. one ∷ ls) next.1.1)
        | inr is ↦ inr (IsBlock-later line.now left one other is)
      ]
    ],
  )

  pub read-second : (first : Bor (List ℕ)) → IsAhead (First first) (line.now ∷ left) one other ↔ (IsTold (Some (first, line)) one other ⊎ IsAhead Nothing left one other)
  read-second first = (
    λ ahead. elim ahead [
      | inl next ↦ inl (next.0, first_same line.now other (accesses_in left) next.1.0 (sym whole ∙ next.1.1))
      | inr is ↦ inr (IsBlock-behind line.now left one other plain is)
    ],
    λ h. elim h [
      | inl told ↦ inl (told.0, (accesses_in left, whole ∙ ap (λ l. l ∷ accesses_in left) told.1))
      | inr is ↦ inr (IsBlock-later line.now left one other is)
    ],
  )

pub if_none : {X P : Type 0} (o : Option X) → IfNone o P → o ≡ None → P
if_none None h e = h
if_none (Some x) h e = absurd (cc e)

pub if_some : {X : Type 0} (P : X → Type 0) (o : Option X) (x : X) → IfSome o P → o ≡ Some x → P x
if_some {X = X} P o x h e = subst (λ (m : Option X). IfSome m P) e h

-- pairs with the same numbers are one
same_numbers : (k l : ℕ × ℕ) → l.0 ≡ k.0 → l.1 ≡ k.1 → l ≡ k
same_numbers k l lesser greater = ap (λ x. (x, l.1)) lesser ∙ ap (λ y. (k.0, y)) greater

-- what is among pairs after one was inserted
insert_cases : (b : Bool) (old : List (ℕ × ℕ)) (k l : ℕ × ℕ) → Contains (if b then old else old ++ k ∷ []) l → Contains old l ⊎ (k ≡ l)
insert_cases true old k l there = inl there
insert_cases false old k l there = Contains-push_cases old k l there

insert_old : (b : Bool) (old : List (ℕ × ℕ)) (k l : ℕ × ℕ) → Contains old l → Contains (if b then old else old ++ k ∷ []) l
insert_old true old k l there = there
insert_old false old k l there = Contains-append_left old (k ∷ []) l there

Contains-insert_cases : (old : List (ℕ × ℕ)) (k l : ℕ × ℕ) → Contains (insert_key same_places old k) l → Contains old l ⊎ (k ≡ l)
Contains-insert_cases old k l there = insert_cases (list_any (same_places k) old) old k l there

Contains-insert_old : (old : List (ℕ × ℕ)) (k l : ℕ × ℕ) → Contains old l → Contains (insert_key same_places old k) l
Contains-insert_old old k l there = insert_old (list_any (same_places k) old) old k l there

module _ (keys : List (Vec ℕ Global)) where
  IsPlace-unique : (line : List ℕ) (m n : ℕ) → IsPlace keys line m → IsPlace keys line n → m ≡ n
  IsPlace-unique line m n is also =
      sym is.2.0 ∙ ap (λ (t : List ℕ). position_or_len (is_text t) keys) (is.1.1 ∙ sym also.1.1) ∙ also.2.0

  ArePair-unique : (one other : List ℕ) (k l : ℕ × ℕ) → ArePair keys one other k.0 k.1 → ArePair keys one other l.0 l.1 → l ≡ k
  ArePair-unique one other k l are also =
      let first = IsPlace-unique one are.0 also.0 are.2 also.2 in
      let second = IsPlace-unique other are.1 also.1 are.3 also.3 in
      same_numbers k l (omega (arith, are.4, also.4, first, second)) (omega (arith, are.5, also.5, first, second))

  module _ (told : Option (Bor (List ℕ) × Bor (List ℕ))) (one other : Bor (List ℕ)) (are : told ≡ Some (one, other)) where
    told_are : (first second : List ℕ) → IsTold told first second → (one.now ≡ first) × (other.now ≡ second)
    told_are first second is = subst (λ t. IsTold t first second) are is

    pub IsNoted-none : ((p q : ℕ) → ¬ ArePair keys one.now other.now p q) → (known : List (ℕ × ℕ)) → IsNoted keys told known known
    IsNoted-none none known p q = (
      λ there. inl there,
      λ h. elim h [
        | inl there ↦ there
        | inr new ↦
            let same = told_are new.0 new.1 new.2 in
            absurd (none p q (subst (λ l. ArePair keys l other.now p q) (sym same.0) (subst (λ l. ArePair keys new.0 l p q) (sym same.1) new.3)))
      ],
    )

    pub IsNoted-some : (a b : ℕ) → ArePair keys one.now other.now a b → (old new : List (ℕ × ℕ)) → new ≡ insert_key same_places old (a, b) → IsNoted keys told old new
    IsNoted-some a b are_ab old new grown p q = (
      λ there. elim (Contains-insert_cases old (a, b) (p, q) (subst (λ l. Contains l (p, q)) grown there)) [
        | inl was ↦ inl was
        | inr is ↦ inr (one.now, other.now, subst (λ t. IsTold t one.now other.now) (sym are) (refl, refl), subst (λ (k : ℕ × ℕ). ArePair keys one.now other.now k.0 k.1) is are_ab)
      ],
      λ h. subst (λ l. Contains l (p, q)) (sym grown) (elim h [
        | inl was ↦ Contains-insert_old old (a, b) (p, q) was
        | inr new ↦
            let same = told_are new.0 new.1 new.2 in
            let pair : ArePair keys one.now other.now p q = subst (λ l. ArePair keys l other.now p q) (sym same.0) (subst (λ l. ArePair keys new.0 l p q) (sym same.1) new.3) in
            subst (λ k. Contains (insert_key same_places old (a, b)) k) (ArePair-unique one.now other.now (p, q) (a, b) pair are_ab) (Contains-insert_key same_places same_places_are old (a, b))
      ]),
    )

module _ (keys : List (Vec ℕ Global)) where
  pub IsReadUpTo-start : (all : List (List ℕ)) → IsReadUpTo keys all all Nothing []
  IsReadUpTo-start all = record {
    ahead = λ one other is. is;
    found = λ one other is. inl is;
    named = λ p q there. absurd (omega (arith, there.1));
  }

  pub IsReadUpTo-step :
      (all left rest : List (List ℕ)) (line : List ℕ) (block next : Block) (told : Option (Bor (List ℕ) × Bor (List ℕ))) (known more : List (ℕ × ℕ))
      → IsReadUpTo keys all left block known → left ≡ line ∷ rest → IsRead block line next told → IsNoted keys told known more → IsReadUpTo keys all rest next more
  IsReadUpTo-step all left rest line block next told known more was are reads noted =
      let back : (one other : List ℕ) → (IsTold told one other ⊎ IsAhead next rest one other) → IsBlock all one other =
      λ one other h. was.ahead one other (subst (λ ls. IsAhead block ls one other) (sym are) ((reads rest one other).1 h)) in
      record {
        ahead = λ one other h. back one other (inr h);
        found = λ one other is. elim (was.found one other is) [
          | inl ahead ↦ elim ((reads rest one other).0 (subst (λ ls. IsAhead block ls one other) are ahead)) [
            | inl now ↦ inr (λ p q pair. (noted p q).1 (inr (one, other, now, pair)))
            | inr later ↦ inl later
          ]
          | inr had ↦ inr (λ p q pair. (noted p q).1 (inl (had p q pair)))
        ];
        named = λ p q there. elim ((noted p q).0 there) [
          | inl old ↦ was.named p q old
          | inr new ↦ (new.0, new.1, back new.0 new.1 (inl new.2), new.3)
        ];
      }

  -- no line is left
  nothing_ahead : (block : Block) (one other : List ℕ) → ¬ IsAhead block [] one other
  nothing_ahead Nothing one other is = no_block is.before is.head is.behind is.whole
  nothing_ahead Race one other (inl first) = absurd (omega (arith, ap length first.1))
  nothing_ahead Race one other (inr is) = no_block is.before is.head is.behind is.whole
  nothing_ahead (First line) one other (inl next) = absurd (omega (arith, ap length next.1.1))
  nothing_ahead (First line) one other (inr is) = no_block is.before is.head is.behind is.whole

  pub AreKnown-end : (text : List ℕ) (block : Block) (known : List (ℕ × ℕ)) → IsReadUpTo keys (slice_split is_line_feed text) [] block known → AreKnown keys text known
  AreKnown-end text block known is p q = (
    λ there.
        let h = is.named p q there in
        let pair = h.3 in
        let one = pair.2 in
        let other = pair.3 in
        (one.0, other.0, (h.0, h.1, h.2, one.1, other.1), (pair.0, pair.1, one.2, other.2, pair.4, pair.5)),
    λ named.
        let names = named.2 in
        let places = named.3 in
        elim (is.found names.0 names.1 names.2) [
          | inl ahead ↦ absurd (nothing_ahead block names.0 names.1 ahead)
          | inr had ↦ had p q (places.0, places.1, (named.0, names.3, places.2), (named.1, names.4, places.3), places.4, places.5)
        ],
  )

module _ (all left rest : List (List ℕ)) (line : List ℕ) (block next : Block) (told : Option (Bor (List ℕ) × Bor (List ℕ)))
    (are : AreAhead all left block) (split : left ≡ line ∷ rest) (reads : IsRead block line next told) where
  -- what a line more tells stands among all lines
  told-block : (one other : List ℕ) → IsTold told one other ⊎ IsAhead next rest one other → IsBlock all one other
  told-block one other h = (are one other).0 (subst (λ ls. IsAhead block ls one other) (sym split) ((reads rest one other).1 h))

  pub AreAhead-step : told ≡ None → AreAhead all rest next
  AreAhead-step none one other = (
    λ ahead. told-block one other (inr ahead),
    λ whole. elim ((reads rest one other).0 (subst (λ ls. IsAhead block ls one other) split ((are one other).1 whole))) [
      | inl now ↦ absurd (subst (λ t. IsTold t one other) none now)
      | inr ahead ↦ ahead
    ],
  )

  pub AreAhead-found : (one other : Bor (List ℕ)) → told ≡ Some (one, other) → (x y : List ℕ) × IsBlock all x y
  AreAhead-found one other is = (one.now, other.now, told-block one.now other.now (inl (subst (λ t. IsTold t one.now other.now) (sym is) (refl, refl))))

-- where no line is left there is no block
pub AreAhead-end : (text : List ℕ) (block : Block) → AreAhead (slice_split is_line_feed text) [] block → ¬ HasBlock text
AreAhead-end text block are has = nothing_ahead [] block has.0 has.1 ((are has.0 has.1).1 has.2)

-- the two numbers of a pair are those of two others, in one order or the other
two_orders : (p q a b m n : ℕ) → p ≡ min m n → q ≡ max m n → ((a ≡ p) × (b ≡ q)) ⊎ ((a ≡ q) × (b ≡ p)) → ((a ≡ m) × (b ≡ n)) ⊎ ((a ≡ n) × (b ≡ m))
two_orders p q a b m n lesser greater lie =
    elim (cases_lt n m) [
      | inl turned ↦ elim lie [ inl is ↦ inr (omega (arith, is.0), omega (arith, is.1)) | inr is ↦ inl (omega (arith, is.0), omega (arith, is.1)) ]
      | inr same ↦ elim lie [ inl is ↦ inl (omega (arith, is.0), omega (arith, is.1)) | inr is ↦ inr (omega (arith, is.0), omega (arith, is.1)) ]
    ]

module _ (r : Recording) (keys : List (Vec ℕ Global)) (numbers text : List ℕ) where
  -- the locations that a text names are those that have the same numbers
  names_same : (x y s t : List ℕ) (a b m n : ℕ) → IsSpot keys x a → IsSpot keys y b → IsSpot keys s m → IsSpot keys t n → (a ≡ m) × (b ≡ n) → NamesRace text s t → NamesRace text x y
  names_same x y s t a b m n x_at y_at s_at t_at are names =
      let first : s ≡ x = one_text keys s x m s_at (subst (λ k. IsSpot keys x k) are.0 x_at) in
      let second : t ≡ y = one_text keys t y n t_at (subst (λ k. IsSpot keys y k) are.1 y_at) in
      subst (λ l. NamesRace text l y) first (subst (λ l. NamesRace text s l) second names)

  names_turned : (x y s t : List ℕ) (a b m n : ℕ) → IsSpot keys x a → IsSpot keys y b → IsSpot keys s m → IsSpot keys t n → (a ≡ n) × (b ≡ m) → NamesRace text s t → NamesRace text y x
  names_turned x y s t a b m n x_at y_at s_at t_at are names = names_same y x s t b a m n y_at x_at s_at t_at (are.1, are.0) names

  pub only_named : (pairs : List (ℕ × ℕ)) → AreKnown keys text pairs → AreNumbered r (length r.events) keys numbers → OnlyNamed r numbers text pairs
  only_named pairs are numbered v x y first second at also lie known =
      let places : ℕ × ℕ = v.row.places in
      let h = (are places.0 places.1).0 (Contains-list_any same_places same_places_are pairs places known) in
      let told = h.3 in
      let a : ℕ = slice_index numbers v.first in
      let b : ℕ = slice_index numbers v.second in
      let x_at : IsSpot keys x a = numbered.spots v.first x first at in
      let y_at : IsSpot keys y b = numbered.spots v.second y second also in
      elim (two_orders places.0 places.1 a b told.0 told.1 told.4 told.5 (between_cases places.0 places.1 a b lie)) [
        | inl same ↦ inl (names_same x y h.0 h.1 a b told.0 told.1 x_at y_at told.2 told.3 same h.2)
        | inr turned ↦ inr (names_turned x y h.0 h.1 a b told.0 told.1 x_at y_at told.2 told.3 turned h.2)
      ]

-- a rising pair of two numbers has the lesser of them first, in which order they may stand
rising_pair : (p q a b : ℕ) → p ≤ q → ((a ≡ p) × (b ≡ q)) ⊎ ((a ≡ q) × (b ≡ p)) → (p ≡ min a b) × (q ≡ max a b)
rising_pair p q a b low (inl is) = (omega (arith, low, is.0, is.1), omega (arith, low, is.0, is.1))
rising_pair p q a b low (inr is) = (omega (arith, low, is.0, is.1), omega (arith, low, is.0, is.1))

turned_pair : (p q a b : ℕ) → (p ≡ min a b) × (q ≡ max a b) → (p ≡ min b a) × (q ≡ max b a)
turned_pair p q a b is = (omega (arith, is.0), omega (arith, is.1))

module _ (r : Recording) (keys : List (Vec ℕ Global)) (numbers text : List ℕ) where
  -- what the text names is noted
  noted_pair : (pairs : List (ℕ × ℕ)) → AreKnown keys text pairs → (x y : List ℕ) (a b p q : ℕ)
      → IsSpot keys x a → IsSpot keys y b → (p ≡ min a b) × (q ≡ max a b) → NamesRace text x y → Contains pairs (p, q)
  noted_pair pairs are x y a b p q x_at y_at is names = (are p q).1 (x, y, names, (a, b, x_at, y_at, is.0, is.1))

  pub all_named : (pairs : List (ℕ × ℕ)) → AreKnown keys text pairs → AreNumbered r (length r.events) keys numbers → AllNamed r numbers text pairs
  all_named pairs are numbered v x y first second at also low lie named =
      let places : ℕ × ℕ = v.row.places in
      let a : ℕ = slice_index numbers v.first in
      let b : ℕ = slice_index numbers v.second in
      let x_at : IsSpot keys x a = numbered.spots v.first x first at in
      let y_at : IsSpot keys y b = numbered.spots v.second y second also in
      let is = rising_pair places.0 places.1 a b low (between_cases places.0 places.1 a b lie) in
      let there : Contains pairs (places.0, places.1) = elim named [
        | inl one ↦ noted_pair pairs are x y a b places.0 places.1 x_at y_at is one
        | inr other ↦ noted_pair pairs are y x b a places.0 places.1 y_at x_at (turned_pair places.0 places.1 a b is) other
      ] in
      list_any-from_Contains same_places-equiv places pairs there
