-- Names in levels.
use Rattle.std.proofs.Common.{◌≡◌, ℕ, ◌+◌, ◌<◌, ◌≤◌, ◌&&◌, ◌||◌, Bool, true, false, not, cond, List, [], ◌∷◌, ◌++◌, length, drop, take, flat_map, get_or, bytes_eq, Some, slice_get, append_assoc, append-nil, take-append-drop, refl, sym, ap, ap₂, ◌∙◌, subst, arith}
use Rattle.std.specs.List.{position_or_len}
use Rattle.std.specs.Cmp.Lexicographic.{bytes_decides}
use Rattle.std.proofs.lemmas.Bool.{or_left, or_right}
use Rattle.std.proofs.lemmas.List.{get_or_append_left, get_or-append-add, get_or_default, length-append, take_more}
use Rattle.std.proofs.lemmas.List.Concat.{flat_map-append}
use Rattle.std.proofs.lemmas.List.Folds.{list_any-append}
use Rattle.std.proofs.lemmas.List.Sums.{position_or_len_is, prefix_len-le-length}
use Rattle.std.proofs.lemmas.Option.{slice_get_within, slice_get-get_or, get_or_from_slice_get}
use Rattle.rapid_text.specs.Canonical.{name_at}
use Rattle.rapid_text.proofs.NameNumbers.{has}
use Rattle.window.specs.HeadText.{first_name, first_outside, noted_lines}
use Rattle.window.specs.Streams.{is_named}
use Rattle.window.specs.Tables.{found_name}
use Rattle.window.proofs.KnownLemmas.{found_more}

-- the level at a place
pub level_at : {X : Type 0} (ls : List X) (i : ℕ) (l : X) → i < length ls → l ≡ get_or ls i l → slice_get ls i ≡ Some l
level_at ls i l lt at = slice_get-get_or ls i l lt ∙ ap Some (sym at)

module _ {X : Type 0} (f : X → List (List ℕ)) (ls : List X) where
  -- one level more
  pub levels_more : (i : ℕ) (l : X) → slice_get ls i ≡ Some l → flat_map f (take (i + 1) ls) ≡ flat_map f (take i ls) ++ f l
  levels_more i l at =
      ap (flat_map f) (take_more ls i l (slice_get_within ls i l at))
      ∙ flat_map-append f (take i ls) (get_or ls i l ∷ [])
      ∙ ap (λ (y : List (List ℕ)). flat_map f (take i ls) ++ y) (append-nil (f (get_or ls i l)) ∙ ap f (get_or_from_slice_get ls i l l at))

  -- the first levels and the others
  pub levels_split : (i : ℕ) → flat_map f (take i ls) ++ flat_map f (drop i ls) ≡ flat_map f ls
  levels_split i = sym (flat_map-append f (take i ls) (drop i ls)) ∙ ap (flat_map f) (take-append-drop i ls)

  -- the levels before one, that one, and those after it
  pub levels_at : (i : ℕ) (l : X) → slice_get ls i ≡ Some l → flat_map f ls ≡ flat_map f (take i ls) ++ (f l ++ flat_map f (drop (i + 1) ls))
  levels_at i l at =
      sym (levels_split (i + 1)) ∙ ap (λ (y : List (List ℕ)). y ++ flat_map f (drop (i + 1) ls)) (levels_more i l at)
      ∙ append_assoc (flat_map f (take i ls)) (f l) (flat_map f (drop (i + 1) ls))

  -- a name of one level
  pub in_level : (i : ℕ) (l : X) (name : List ℕ) → slice_get ls i ≡ Some l → has (f l) name ≡ true → has (flat_map f ls) name ≡ true
  in_level i l name at here =
      ap (λ (ns : List (List ℕ)). has ns name) (levels_at i l at)
      ∙ list_any-append (bytes_eq name) (flat_map f (take i ls)) (f l ++ flat_map f (drop (i + 1) ls))
      ∙ or_right (has (flat_map f (take i ls)) name) (has (f l ++ flat_map f (drop (i + 1) ls)) name)
      (list_any-append (bytes_eq name) (f l) (flat_map f (drop (i + 1) ls)) ∙ or_left (has (f l) name) (has (flat_map f (drop (i + 1) ls)) name) here)

  -- the names of one level more are noted
  pub noted_level : (new cur old : List (List ℕ)) (i : ℕ) (l : X) → slice_get ls i ≡ Some l
      → ((other : List ℕ) → has new other ≡ (has cur other || has (f l) other))
      → ((other : List ℕ) → has cur other ≡ (has old other || has (flat_map f (take i ls)) other))
      → (other : List ℕ) → has new other ≡ (has old other || has (flat_map f (take (i + 1) ls)) other)
  noted_level new cur old i l at one before other =
      one other ∙ ap (λ b. b || has (f l) other) (before other)
      ∙ assoc (has old other) (has (flat_map f (take i ls)) other) (has (f l) other)
      ∙ ap (λ b. has old other || b)
      (sym (ap (λ (ns : List (List ℕ)). has ns other) (levels_more i l at) ∙ list_any-append (bytes_eq other) (flat_map f (take i ls)) (f l)))
    where
      assoc : (a b c : Bool) → ((a || b) || c) ≡ (a || (b || c))
      assoc true b c = refl
      assoc false b c = refl

  -- the lines of one level more
  pub lines_level : (line : List ℕ → List ℕ) (noted : List (List ℕ)) (i : ℕ) (l : X) → slice_get ls i ≡ Some l
      → noted_lines line noted (flat_map f (take i ls)) ++ noted_lines line noted (f l) ≡ noted_lines line noted (flat_map f (take (i + 1) ls))
  lines_level line noted i l at =
      sym (ap (noted_lines line noted) (levels_more i l at) ∙ flat_map-append _ (flat_map f (take i ls)) (f l))

  -- the first name, after levels without one
  pub first_level : (i : ℕ) (l : X) (name : List ℕ) → slice_get ls i ≡ Some l → flat_map f (take i ls) ≡ [] → 0 < length (f l) → get_or (f l) 0 [] ≡ name
      → name ≡ first_name (flat_map f ls)
  first_level i l name at none some here =
      sym (ap (λ (ns : List (List ℕ)). get_or ns 0 []) (levels_at i l at ∙ ap (λ (y : List (List ℕ)). y ++ (f l ++ flat_map f (drop (i + 1) ls))) none)
      ∙ get_or_append_left (f l) (flat_map f (drop (i + 1) ls)) [] 0 some ∙ here)

-- The first that is none of the others.
module _ (others : List (List ℕ)) where
  abbrev test : List ℕ → Bool
  test name = not (is_named others name)

  -- after names that each are one of the others
  place_after : (us bs : List (List ℕ)) → position_or_len test us ≡ length us → position_or_len test (us ++ bs) ≡ length us + position_or_len test bs
  place_after [] bs none = omega arith
  place_after (u ∷ us) bs none = by (is_named others u) (place_after us bs) none
    where
      by : (b : Bool) → (position_or_len test us ≡ length us → position_or_len test (us ++ bs) ≡ length us + position_or_len test bs)
          → cond (not (not b)) (1 + position_or_len test us) 0 ≡ length (u ∷ us)
          → cond (not (not b)) (1 + position_or_len test (us ++ bs)) 0 ≡ length (u ∷ us) + position_or_len test bs
      by true rest e = let later = rest (omega (arith, e)) in omega (arith, later)
      by false rest e = absurd (omega (arith, e))

  -- before any other names
  place_before : (us bs : List (List ℕ)) → position_or_len test us < length us → position_or_len test (us ++ bs) ≡ position_or_len test us
  place_before [] bs found = absurd (omega (arith, found))
  place_before (u ∷ us) bs found = by (is_named others u) (place_before us bs) found
    where
      by : (b : Bool) → (position_or_len test us < length us → position_or_len test (us ++ bs) ≡ position_or_len test us)
          → cond (not (not b)) (1 + position_or_len test us) 0 < length (u ∷ us)
          → cond (not (not b)) (1 + position_or_len test (us ++ bs)) 0 ≡ cond (not (not b)) (1 + position_or_len test us) 0
      by true rest e = ap (λ n. 1 + n) (rest (omega (arith, e)))
      by false rest e = refl

  module _ {X : Type 0} (f : X → List (List ℕ)) (ls : List X) where
    -- each name of one level more is one of the others
    pub outside_level : (i : ℕ) (l : X) → slice_get ls i ≡ Some l → position_or_len test (flat_map f (take i ls)) ≡ length (flat_map f (take i ls))
        → length (f l) ≤ position_or_len test (f l) → position_or_len test (flat_map f (take (i + 1) ls)) ≡ length (flat_map f (take (i + 1) ls))
    outside_level i l at before here =
        let A = flat_map f (take i ls) in
        let place = place_after A (f l) before in
        let long = length-append A (f l) in
        let all : position_or_len test (f l) ≡ length (f l) = omega (arith, here, prefix_len-le-length (λ x. not (test x)) (f l)) in
        let same : position_or_len test (A ++ f l) ≡ length (A ++ f l) = omega (arith, place, long, all) in
        subst (λ (ns : List (List ℕ)). position_or_len test ns ≡ length ns) (sym (levels_more f ls i l at)) same

    -- the first that is none of the others is in this level
    pub outside_found : (i : ℕ) (l : X) (name : List ℕ) → slice_get ls i ≡ Some l → position_or_len test (flat_map f (take i ls)) ≡ length (flat_map f (take i ls))
        → position_or_len test (f l) < length (f l) → get_or (f l) (position_or_len test (f l)) [] ≡ name → name ≡ first_outside (flat_map f ls) others
    outside_found i l name at before found here =
        let A = flat_map f (take i ls) in
        let D = flat_map f (drop (i + 1) ls) in
        let d : List ℕ = first_name (flat_map f ls) in
        let place : position_or_len test (flat_map f ls) ≡ length A + position_or_len test (f l) =
        ap (position_or_len test) (levels_at f ls i l at) ∙ place_after A (f l ++ D) before ∙ ap (λ n. length A + n) (place_before (f l) D found) in
        sym (
        ap₂ (λ (ns : List (List ℕ)) (k : ℕ). get_or ns k d) (levels_at f ls i l at) place
        ∙ get_or-append-add A (f l ++ D) (position_or_len test (f l)) d
        ∙ get_or_append_left (f l) D d (position_or_len test (f l)) found
        ∙ sym (get_or_default (f l) (position_or_len test (f l)) [] d found) ∙ here
        )

  -- the place of the first that is none of the others
  pub place_at : (names : List (List ℕ)) (i : ℕ) (name : List ℕ) → i < length names → get_or names i [] ≡ name → is_named others name ≡ false
      → ((k : ℕ) → k < i → is_named others (get_or names k []) ≡ true) → i ≡ position_or_len test names
  place_at names i name lt at free before =
      sym (position_or_len_is test names i [] (omega (arith, lt)) (λ k below. ap not (before k below)) (λ _. ap test at ∙ ap not free))

  -- how many names there are, if each is one of the others
  pub place_end : (names : List (List ℕ)) (n : ℕ) → length names ≤ n → ((k : ℕ) → k < n → is_named others (get_or names k []) ≡ true) → length names ≡ position_or_len test names
  place_end names n all before =
      sym (position_or_len_is test names (length names) [] (omega arith) (λ k lt. ap not (before k (omega (arith, lt, all)))) (λ lt. absurd (omega (arith, lt))))

-- a name that is new is noted
pub found_new : (known : List (List ℕ)) (names : List (List ℕ)) (test : ℕ → Bool) (new cur old : List (List ℕ)) (i : ℕ) (found asked : Bool) (name : List ℕ)
    → asked ≡ (found && not (has known name))
    → ((other : List ℕ) → has new other ≡ (has cur other || (asked && bytes_eq other name)))
    → ((other : List ℕ) → has (known ++ cur) other ≡ (has (known ++ old) other || found_name names test i other))
    → found ≡ test i → name ≡ name_at names i
    → (other : List ℕ) → has (known ++ new) other ≡ (has (known ++ old) other || found_name names test (i + 1) other)
found_new known names test new cur old i found asked name asks one before is at =
    found_more names test (known ++ new) (known ++ cur) (known ++ old) i found name each before is at
  where
    by : (k c a b : Bool) → (b ≡ true → a ≡ (found && not k)) → (k || (c || (a && b))) ≡ ((k || c) || (found && b))
    by true c a b e = refl
    by false true a b e = refl
    by false false a false e = both a found
      where
        both : (a b : Bool) → (a && false) ≡ (b && false)
        both true true = refl
        both true false = refl
        both false true = refl
        both false false = refl
    by false false a true e = ap (λ x. x && true) (e refl ∙ plain found)
      where
        plain : (b : Bool) → (b && true) ≡ b
        plain true = refl
        plain false = refl

    each : (other : List ℕ) → has (known ++ new) other ≡ (has (known ++ cur) other || (found && bytes_eq other name))
    each other =
        let same : bytes_eq other name ≡ true → asked ≡ (found && not (has known other)) =
        λ eq. asks ∙ ap (λ (n : List ℕ). found && not (has known n)) (sym ((bytes_decides other name).0 eq)) in
        list_any-append (bytes_eq other) known new
        ∙ ap (λ b. has known other || b) (one other)
        ∙ by (has known other) (has cur other) asked (bytes_eq other name) same
        ∙ ap (λ b. b || (found && bytes_eq other name)) (sym (list_any-append (bytes_eq other) known cur))

-- the levels that stay, and one of the others and more names
pub joined_is : {X : Type 0} (f : X → List (List ℕ)) (ls : List X) (keep : ℕ) (level none others names : List (List ℕ)) → none ≡ []
    → ((other : List ℕ) → has others other ≡ (has none other || has (flat_map f (drop keep ls)) other))
    → ((other : List ℕ) → has level other ≡ (has others other || has names other))
    → (other : List ℕ) → has (flat_map f (take keep ls) ++ level) other ≡ has (flat_map f ls ++ names) other
joined_is f ls keep level none others names empty first second other =
    list_any-append (bytes_eq other) (flat_map f (take keep ls)) level
    ∙ ap (λ b. has (flat_map f (take keep ls)) other || b)
    (second other ∙ ap (λ b. b || has names other) (first other ∙ ap (λ (ns : List (List ℕ)). has ns other || has (flat_map f (drop keep ls)) other) empty))
    ∙ assoc (has (flat_map f (take keep ls)) other) (has (flat_map f (drop keep ls)) other) (has names other)
    ∙ ap (λ b. b || has names other)
    (sym (list_any-append (bytes_eq other) (flat_map f (take keep ls)) (flat_map f (drop keep ls))) ∙ ap (λ (ns : List (List ℕ)). has ns other) (levels_split f ls keep))
    ∙ sym (list_any-append (bytes_eq other) (flat_map f ls) names)
  where
    assoc : (a b c : Bool) → (a || (b || c)) ≡ ((a || b) || c)
    assoc true b c = refl
    assoc false b c = refl
