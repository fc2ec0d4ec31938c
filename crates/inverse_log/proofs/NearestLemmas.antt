-- The least blocker, by the lists of the names that were written.
use Rattle.std.proofs.Common.{◌≡◌, inl, inr, ℕ, ◌<◌, ◌≤◌, ◌+◌, Bool, true, false, ltb, ◌&&◌, suc, take, get_or, List, [], ◌∷◌, ◌++◌, Option, Some, None, All, length, map, filter, fold, refl, sym, ap, ◌∙◌, subst, arith}
use Rattle.std.proofs.Math.Seq.{take-suc}
use Rattle.std.proofs.lemmas.List.{map-append}
use Rattle.std.specs.List.{find, list_any}
use Rattle.std.specs.Option.{option_map, unwrap_or, IfSome}
use Rattle.std.proofs.lemmas.Bool.{cases_Bool, lt-ltb, le-ltb, or_parts, and_parts, false≢true}
use Rattle.std.proofs.lemmas.List.Elements.{All-nil, All-cons, All-head, All-tail, All-weaker}
use Rattle.moves.specs.declared.command.Command.{Command}
use Rattle.moves.specs.Commands.{writes, touches_any}
use Rattle.dependence.specs.Lists.{Lists, under}
use Rattle.inverse_log.specs.declared.entry.Entry.{Entry}
use Rattle.inverse_log.specs.Log.{Live, live_of, written, blocks, blocker_of, rests_on}
use Rattle.inverse_log.specs.Nearest.{nearer, next_under, nearest}
use Rattle.inverse_log.specs.Touching.{touching, entry_number, touches_name}
use Rattle.inverse_log.proofs.LiveLemmas.{Climbs, rises_live, rises_above}

-- the least number above k of the live entries that touch the name x
abbrev next_of : ℕ → List Live → List ℕ → Option ℕ
next_of k E x = find (λ j. ltb k j) (map entry_number (filter (touches_name x) E))

-- the least number of one of the names, and the first name that has it
abbrev over : (List ℕ → Option ℕ) → Option (ℕ × List ℕ) → List (List ℕ) → Option (ℕ × List ℕ)
over next found X = fold (λ found x. nearer found (next x) x) found X

over_same : (f g : List ℕ → Option ℕ) (o : Option (ℕ × List ℕ)) (X : List (List ℕ)) → ((x : List ℕ) → f x ≡ g x) → over f o X ≡ over g o X
over_same f g o [] same = refl
over_same f g o (x ∷ X) same = ap (λ n. over f (nearer o n x) X) (same x) ∙ over_same f g (nearer o (g x) x) X same

-- where the names have what they had, and another number is not below m
nearer_none : (o : Option (ℕ × List ℕ)) (x : List ℕ) → nearer o None x ≡ o
nearer_none o x = refl

-- none of the names is touched: only what is further on counts
over_tail : (k : ℕ) (e : Live) (E : List Live) (o : Option (ℕ × List ℕ)) (X : List (List ℕ)) → (ltb k e.number && list_any (touches_any e.commands) X) ≡ false → over (next_of k (e ∷ E)) o X ≡ over (next_of k E) o X
over_tail k e E o [] none = refl
over_tail k e E o (x ∷ X) none = elim (cases_Bool (ltb k e.number)) [
  | inl a ↦
      let parts = or_parts (touches_any e.commands x) (list_any (touches_any e.commands) X) (rw a at none) in
      let same : next_of k (e ∷ E) x ≡ next_of k E x = rw parts.0 refl in
      ap (λ n. over (next_of k (e ∷ E)) (nearer o n x) X) same ∙ over_tail k e E (nearer o (next_of k E x) x) X (rw a parts.1)
  | inr a ↦
      let same : next_of k (e ∷ E) x ≡ next_of k E x = elim (cases_Bool (touches_any e.commands x)) [ inl b ↦ rw (b, a) refl | inr b ↦ rw b refl ] in
      ap (λ n. over (next_of k (e ∷ E)) (nearer o n x) X) same ∙ over_tail k e E (nearer o (next_of k E x) x) X (rw a refl)
]

-- what is found under a name further on has a greater number
find_above : (q : ℕ → Bool) (m : ℕ) (xs : List ℕ) → All (λ j. m < j) xs → IfSome (find q xs) (λ j. m < j)
find_above q m [] all = tt
find_above q m (x ∷ xs) all = elim (cases_Bool (q x)) [
  | inl t ↦ rw t (All-head (λ j. m < j) x xs all)
  | inr f ↦ rw f (find_above q m xs (All-tail (λ j. m < j) x xs all))
]

numbers_above : (m : ℕ) (q : Live → Bool) (E : List Live) → All (λ (p : Live). m < p.number) E → All (λ j. m < j) (map entry_number (filter q E))
numbers_above m q [] all = All-nil (λ j. m < j)
numbers_above m q (p ∷ E) all = elim (cases_Bool (q p)) [
  | inl t ↦ rw t (All-cons (λ j. m < j) p.number (map entry_number (filter q E)) (All-head (λ (p : Live). m < p.number) p E all) (numbers_above m q E (All-tail (λ (p : Live). m < p.number) p E all)))
  | inr f ↦ rw f (numbers_above m q E (All-tail (λ (p : Live). m < p.number) p E all))
]

-- what was found has a greater number than m, or nothing was found
abbrev IsAfter : ℕ → Option (ℕ × List ℕ) → Type 0
IsAfter m o = IfSome o (λ p. m < p.0)

nearer_after : (m : ℕ) (o : Option (ℕ × List ℕ)) (n : Option ℕ) (x : List ℕ) → IsAfter m o → IfSome n (λ j. m < j) → IsAfter m (nearer o n x)
nearer_after m o None x ho hn = ho
nearer_after m None (Some j) x ho hn = hn
nearer_after m (Some p) (Some j) x ho hn = elim (cases_Bool (ltb j p.0)) [ inl t ↦ rw t hn | inr f ↦ rw f ho ]

nearer_here : (m : ℕ) (o : Option (ℕ × List ℕ)) (x : List ℕ) → IsAfter m o → nearer o (Some m) x ≡ Some (m, x)
nearer_here m None x ho = refl
nearer_here m (Some p) x ho = rw (lt-ltb m p.0 ho) refl

nearer_stays : (m : ℕ) (y : List ℕ) (n : Option ℕ) (x : List ℕ) → IfSome n (λ j. m ≤ j) → nearer (Some (m, y)) n x ≡ Some (m, y)
nearer_stays m y None x hn = refl
nearer_stays m y (Some j) x hn = rw (le-ltb j m hn) refl

module _ (k : ℕ) (e : Live) (E : List Live) (later : ltb k e.number ≡ true) (above : All (λ (p : Live). e.number < p.number) E) where
  next_here : (x : List ℕ) → touches_any e.commands x ≡ true → next_of k (e ∷ E) x ≡ Some e.number
  next_here x h = rw (h, later) refl

  next_further : (x : List ℕ) → touches_any e.commands x ≡ false → IfSome (next_of k (e ∷ E) x) (λ j. e.number < j)
  next_further x h = rw h (find_above (λ j. ltb k j) e.number (map entry_number (filter (touches_name x) E)) (numbers_above e.number (touches_name x) E above))

  next_least : (x : List ℕ) → IfSome (next_of k (e ∷ E) x) (λ j. e.number ≤ j)
  next_least x = elim (cases_Bool (touches_any e.commands x)) [
    | inl h ↦ subst (λ o. IfSome o (λ j. e.number ≤ j)) (sym (next_here x h)) (omega arith)
    | inr h ↦ weaker (next_of k (e ∷ E) x) (next_further x h)
  ]
    where
      weaker : (o : Option ℕ) → IfSome o (λ j. e.number < j) → IfSome o (λ j. e.number ≤ j)
      weaker None h = tt
      weaker (Some j) h = omega (arith, h)

  over_stays : (y : List ℕ) (X : List (List ℕ)) → over (next_of k (e ∷ E)) (Some (e.number, y)) X ≡ Some (e.number, y)
  over_stays y [] = refl
  over_stays y (x ∷ X) = ap (λ o. over (next_of k (e ∷ E)) o X) (nearer_stays e.number y (next_of k (e ∷ E) x) x (next_least x)) ∙ over_stays y X

  -- one of the names is touched: the first such
  over_here : (o : Option (ℕ × List ℕ)) (X : List (List ℕ)) → IsAfter e.number o → list_any (touches_any e.commands) X ≡ true → over (next_of k (e ∷ E)) o X ≡ Some (e.number, unwrap_or (find (touches_any e.commands) X) [])
  over_here o [] ho some = absurd (false≢true some)
  over_here o (x ∷ X) ho some = elim (cases_Bool (touches_any e.commands x)) [
    | inl h ↦
        let first : unwrap_or (find (touches_any e.commands) (x ∷ X)) [] ≡ x = rw h refl in
        ap (λ n. over (next_of k (e ∷ E)) (nearer o n x) X) (next_here x h) ∙ ap (λ p. over (next_of k (e ∷ E)) p X) (nearer_here e.number o x ho) ∙ over_stays x X ∙ ap (λ y. Some (e.number, y)) (sym first)
    | inr h ↦
        let first : find (touches_any e.commands) (x ∷ X) ≡ find (touches_any e.commands) X = rw h refl in
        over_here (nearer o (next_of k (e ∷ E) x) x) X (nearer_after e.number o (next_of k (e ∷ E) x) x ho (next_further x h)) (rw h at some) ∙ ap (λ y. Some (e.number, unwrap_or y [])) (sym first)
  ]

-- what an undo rests on: a number and a name
abbrev pub told : Live → Option Live → Option (ℕ × List ℕ)
told g o = option_map (λ (b : Live). (b.number, rests_on g b)) o

over_none : (k : ℕ) (X : List (List ℕ)) → over (next_of k []) None X ≡ None
over_none k [] = refl
over_none k (x ∷ X) = over_none k X

nearest_in : (g : Live) (E : List Live) (low high : ℕ) → Climbs low E high → over (next_of g.number E) None (written g) ≡ told g (find (blocks g) E)
nearest_in g [] low high r = over_none g.number (written g)
nearest_in g (e ∷ E) low high r = elim (cases_Bool (blocks g e)) [
  | inl t ↦
      let both = and_parts (ltb g.number e.number) (list_any (touches_any e.commands) (written g)) t in
      let above : All (λ (p : Live). e.number < p.number) E = All-weaker (λ (p : Live). e.number + 1 ≤ p.number) (λ (p : Live). e.number < p.number) (λ p h. omega (arith, h)) E (rises_above E (e.number + 1) high r.1) in
      let found : find (blocks g) (e ∷ E) ≡ Some e = rw t refl in
      over_here g.number e E both.0 above None (written g) tt both.1 ∙ ap (told g) (sym found)
  | inr f ↦
      let found : find (blocks g) (e ∷ E) ≡ find (blocks g) E = rw f refl in
      over_tail g.number e E None (written g) f ∙ nearest_in g E (e.number + 1) high r.1 ∙ ap (told g) (sym found)
]

-- the nearest by the lists is the least blocker, with the first name that it touches
pub nearest_blocker : (L : List Entry) (g : Live) (N : Lists) → ((x : List ℕ) → under N x ≡ touching L x) → nearest g.number N (written g) ≡ told g (blocker_of L g)
nearest_blocker L g N names =
    over_same (next_under g.number N) (next_of g.number (live_of L)) None (written g) (λ x. ap (λ xs. find (λ j. ltb g.number j) xs) (names x)) ∙ nearest_in g (live_of L) 0 (length L) (rises_live L)

-- one more name
over_push : (next : List ℕ → Option ℕ) (o : Option (ℕ × List ℕ)) (X : List (List ℕ)) (x : List ℕ) → over next o (X ++ x ∷ []) ≡ nearer (over next o X) (next x) x
over_push next o [] x = refl
over_push next o (y ∷ X) x = over_push next (nearer o (next y) y) X x

pub nearest_next : (k : ℕ) (N : Lists) (D : List Command) (i : ℕ) (d : Command) → i < length D → d ≡ get_or D i d → nearer (nearest k N (map writes (take i D))) (next_under k N (writes d)) (writes d) ≡ nearest k N (map writes (take (i + 1) D))
nearest_next k N D i d within is =
    let up : i + 1 ≡ suc i = omega arith in
    let more : take (i + 1) D ≡ take i D ++ d ∷ [] = ap (λ n. take n D) up ∙ take-suc D i d within ∙ ap (λ e. take i D ++ e ∷ []) (sym is) in
    sym (ap (λ X. nearest k N (map writes X)) more ∙ ap (nearest k N) (map-append writes (take i D) (d ∷ [])) ∙ over_push (next_under k N) None (map writes (take i D)) (writes d))
