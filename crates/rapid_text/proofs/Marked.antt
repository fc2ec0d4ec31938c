-- Bits that tell where the bytes of a text stand.
use Rattle.std.proofs.Common.{◌≡◌, ◌↔◌, ℕ, ◌+◌, ◌-◌, ◌/◌, ◌%◌, ◌^◌, ◌<◌, ◌≤◌, Bool, true, false, cond, List, length, take, drop, get_or, map, refl, sym, ap, subst, ◌∙◌, arith, inl, inr, nat_le, shr-shr, take_all, take_at, [], ◌∷◌, ◌++◌, w64}
use Rattle.std.specs.Prelude.{Some}
use Rattle.std.specs.Int.{bit_at}
use Rattle.std.specs.Simd.Lanes.{mask_l}
use Rattle.std.proofs.lemmas.Simd.{bit_mask_l}
use Rattle.std.proofs.lemmas.List.{get_or-take, get_or-drop, get_or-map, get_or_default, get_or_past, length-take, length-drop, length-map}
use Rattle.std.proofs.lemmas.Nat.Bits.{bit_at-zero, bit_at-trailing_zeros}
use Rattle.std.proofs.lemmas.Bool.{cases_lt, false≢true, le-leb, ne_eqb}
use Rattle.memchr.specs.Find.{IsFirstByte}
use Rattle.rapid_text.specs.Marking.{AreBits, HasNoBlank, IsMarked}
use Rattle.rapid_text.specs.Reading.{is_blank, is_line_feed, is_bar, is_open, trimmed}
use Rattle.rapid_text.specs.declared.marks.Marks.{Marks}
use Rattle.std.specs.Int.{trailing_zeros}
use Rattle.std.proofs.lemmas.List.Elements.{All-take, All-drop}
use Rattle.rapid_text.proofs.Cuts.{has-first}
use Rattle.rapid_text.proofs.Trims.{trimmed-plain}
use Rattle.rapid_text.proofs.Positions.{not_true}
use Rattle.std.specs.List.{position_or_len, list_any, before_first, after_first}

-- a bit of the mask of a test
cond-bit : (b : Bool) → (cond {A = ℕ} b 1 0 ≡ 1) ↔ (b ≡ true)
cond-bit true = (λ e. refl, λ e. refl)
cond-bit false = (λ e. absurd (omega arith), λ e. absurd (false≢true e))

-- a bit of a mask is set where the lane passes, which no lane past the end does
pub set-mask : (bs : List Bool) (k : ℕ) → bit_at (mask_l bs) k ≡ 1 → (k < length bs) × (get_or bs k false ≡ true)
set-mask bs k set =
    let passes : get_or bs k false ≡ true = (cond-bit (get_or bs k false)).0 (sym (bit_mask_l bs k) ∙ set) in
    elim (cases_lt k (length bs)) [
      | inl lt ↦ (lt, passes)
      | inr ge ↦ absurd (false≢true (sym (get_or_past bs k false ge) ∙ passes))
    ]

pub mask-set : (bs : List Bool) (k : ℕ) → get_or bs k false ≡ true → bit_at (mask_l bs) k ≡ 1
mask-set bs k passes = bit_mask_l bs k ∙ (cond-bit (get_or bs k false)).1 passes

module _ (test : ℕ → Bool) where
  -- no bit tells nothing
  pub bits-none : (xs : List ℕ) → AreBits test 0 xs
  bits-none xs = record {
    hits = λ k lt set. absurd (omega (arith, bit_at-zero k));
    all = λ k j set. absurd (omega (arith, bit_at-zero k));
  }

  -- the mask of the front of a text
  pub bits-front : (n : ℕ) (xs : List ℕ) → n ≤ length xs → AreBits test (mask_l (map test (take n xs))) xs
  bits-front n xs le =
      let front = take n xs in
      let long : length front ≡ n = omega (arith, length-take n xs) in
      let low : (k : ℕ) → bit_at (mask_l (map test front)) k ≡ 1 → k < n = λ k set. omega (arith, (set-mask (map test front) k set).0, length-map front test) in
      record {
        hits = λ k lt set. ap test (sym (get_or-take n xs k 0 (low k set))) ∙ sym (get_or-map test front k 0 false (omega (arith, low k set))) ∙ (set-mask (map test front) k set).1;
        all = λ k j set before lt passes.
            mask-set (map test front) j (get_or-map test front j 0 false (omega (arith, low k set)) ∙ ap test (get_or-take n xs j 0 (omega (arith, low k set))) ∙ passes);
      }

  -- the bits of a text are bits of its front
  pub bits-take : (m n : ℕ) (xs : List ℕ) → AreBits test m xs → AreBits test m (take n xs)
  bits-take m n xs bits = record {
    hits = λ k lt set. ap test (get_or-take n xs k 0 (omega (arith, length-take n xs))) ∙ bits.hits k (omega (arith, length-take n xs)) set;
    all = λ k j set before lt passes. bits.all k j set before (omega (arith, length-take n xs)) (ap test (sym (get_or-take n xs j 0 (omega (arith, length-take n xs)))) ∙ passes);
  }

  -- the bits behind the first n are bits of what stands behind the first n
  pub bits-drop : (m m' n : ℕ) (xs : List ℕ) → ((k : ℕ) → bit_at m' k ≡ bit_at m (n + k)) → AreBits test m xs → AreBits test m' (drop n xs)
  bits-drop m m' n xs moved bits = record {
    hits = λ k lt set. ap test (get_or-drop n xs k 0) ∙ bits.hits (n + k) (omega (arith, length-drop n xs)) (sym (moved k) ∙ set);
    all = λ k j set before lt passes. moved j ∙ bits.all (n + k) (n + j) (sym (moved k) ∙ set) (omega arith) (omega (arith, length-drop n xs)) (ap test (sym (get_or-drop n xs j 0)) ∙ passes);
  }

  -- the lowest bit tells where the first byte stands that passes
  pub bits-first : (m : ℕ) (xs : List ℕ) (at : ℕ) → AreBits test m xs → at < length xs → bit_at m at ≡ 1 → ((k : ℕ) → k < at → bit_at m k ≡ 0) → IsFirstByte test xs (Some at)
  bits-first m xs at bits lt set below = (
    record {
      low = omega arith;
      high = lt;
      before = λ k low k_at passes. absurd (omega (arith, bits.all at k set k_at (omega arith) passes, below k k_at));
    },
    bits.hits at lt set,
  )

high-none : (c : ℕ) → 32 < c → is_blank c ≡ false
high-none c more = rw (ne_eqb c 32 (λ e. absurd (omega arith)), ne_eqb c 9 (λ e. absurd (omega arith)), ne_eqb c 13 (λ e. absurd (omega arith))) refl

-- a blank is no more than a space
blank-low : (c : ℕ) → is_blank c ≡ true → nat_le c 32 ≡ true
blank-low c blank =
    elim (cases_lt 32 c) [
      | inl more ↦ absurd (false≢true (sym (high-none c more) ∙ blank))
      | inr le ↦ le-leb c 32 le
    ]

-- the marks of the first 32 bytes
pub marked-front : (text : List ℕ) (feeds bars opens blanks : ℕ) → 32 ≤ length text
    → feeds ≡ mask_l (map is_line_feed (take 32 text)) → bars ≡ mask_l (map is_bar (take 32 text)) → opens ≡ mask_l (map is_open (take 32 text))
    → blanks ≡ mask_l (map (λ c. nat_le c 32) (take 32 text))
    → IsMarked (record { feeds = feeds; bars = bars; opens = opens; blanks = blanks }) text
marked-front text feeds bars opens blanks le f b o s = record {
  feeds = subst (λ m. AreBits is_line_feed m text) (sym f) (bits-front is_line_feed 32 text le);
  bars = subst (λ m. AreBits is_bar m text) (sym b) (bits-front is_bar 32 text le);
  opens = subst (λ m. AreBits is_open m text) (sym o) (bits-front is_open 32 text le);
  blanks = λ k j set before lt blank.
      let front = take 32 text in
      let long : length front ≡ 32 = omega (arith, length-take 32 text) in
      let low : k < 32 = omega (arith, (set-mask (map is_line_feed front) k (ap (λ m. bit_at m k) (sym f) ∙ set)).0, length-map front is_line_feed) in
      ap (λ m. bit_at m j) s
      ∙ mask-set (map (λ c. nat_le c 32) front) j
      (get_or-map (λ c. nat_le c 32) front j 0 false (omega arith) ∙ blank-low (get_or front j 0) (ap is_blank (get_or-take 32 text j 0 (omega arith)) ∙ blank));
}

-- where a line feed is marked and no blank before it, there is none
pub plain-front : (m : Marks) (bar : ℕ) → bit_at m.feeds bar ≡ 1 → ((j : ℕ) → j < bar → bit_at m.blanks j ≡ 0) → (xs : List ℕ) → IsMarked m xs → HasNoBlank (take bar xs)
plain-front m bar set clear xs marked k d lt =
    let low : k < bar = omega (arith, length-take bar xs) in
    let within : k < length xs = omega (arith, length-take bar xs) in
    not_true (is_blank (get_or (take bar xs) k d))
    (λ blank. absurd (omega (arith, clear k low, marked.blanks bar k set low within (ap is_blank (get_or_default xs k 0 d within ∙ sym (get_or-take bar xs k d low)) ∙ blank))))

-- the lowest bit of a number, and none of 0
pub clear-below : (m k : ℕ) → m < 2 ^ 64 → k < trailing_zeros w64 m → bit_at m k ≡ 0
clear-below m k fits lt =
    elim (cases_lt 0 m) [
      | inl some ↦ (bit_at-trailing_zeros w64 m some fits).2 k lt
      | inr none ↦ (let zero : m ≡ 0 = omega arith in rw zero (bit_at-zero k))
    ]

-- the marks of a text are marks of its front
pub marked-take : (m : Marks) (n : ℕ) (xs : List ℕ) → IsMarked m xs → IsMarked m (take n xs)
marked-take m n xs marked = record {
  feeds = bits-take is_line_feed m.feeds n xs marked.feeds;
  bars = bits-take is_bar m.bars n xs marked.bars;
  opens = bits-take is_open m.opens n xs marked.opens;
  blanks = λ k j set before lt blank. marked.blanks k j set before (omega (arith, length-take n xs)) (ap is_blank (sym (get_or-take n xs j 0 (omega (arith, length-take n xs)))) ∙ blank);
}

-- the marks behind the first n bytes
abbrev pub behind : Marks → ℕ → Marks
behind m n = record { feeds = m.feeds / 2 ^ n; bars = m.bars / 2 ^ n; opens = m.opens / 2 ^ n; blanks = m.blanks / 2 ^ n }

-- a bit of what is shifted
moved : (m n k : ℕ) → bit_at (m / 2 ^ n) k ≡ bit_at m (n + k)
moved m n k = ap (λ x. x % 2) (shr-shr m n k)

pub marked-drop : (m : Marks) (n : ℕ) (xs : List ℕ) → IsMarked m xs → IsMarked (behind m n) (drop n xs)
marked-drop m n xs marked = record {
  feeds = bits-drop is_line_feed m.feeds (m.feeds / 2 ^ n) n xs (moved m.feeds n) marked.feeds;
  bars = bits-drop is_bar m.bars (m.bars / 2 ^ n) n xs (moved m.bars n) marked.bars;
  opens = bits-drop is_open m.opens (m.opens / 2 ^ n) n xs (moved m.opens n) marked.opens;
  blanks = λ k j set before lt blank.
      moved m.blanks n j ∙ marked.blanks (n + k) (n + j) (sym (moved m.feeds n k) ∙ set) (omega arith) (omega (arith, length-drop n xs)) (ap is_blank (sym (get_or-drop n xs j 0)) ∙ blank);
}

-- marks of what stands behind the first byte that passes
pub marked-after : (p : ℕ → Bool) (m : Marks) (xs before : List ℕ) → list_any p xs ≡ true → before ≡ before_first p xs → IsMarked m (drop (length before + 1) xs) → IsMarked m (after_first p xs)
marked-after p m xs before any is marked =
    subst (λ n. IsMarked m (drop (n + 1) xs)) (omega (arith, ap length is, length-take (position_or_len p xs) xs, has-first p xs any)) marked

-- marks of what trimming leaves
pub marked-trimmed : (m : Marks) (xs front : List ℕ) (n k : ℕ) → n ≤ length xs → front ≡ drop n xs → IsMarked m (drop (length xs - length front) xs) → IsMarked m (take k front)
marked-trimmed m xs front n k le is marked =
    let same : length xs - length front ≡ n = omega (arith, ap length is, length-drop n xs) in
    marked-take m k front (subst (IsMarked m) (sym is) (subst (λ i. IsMarked m (drop i xs)) same marked))

-- what stands before the first byte that passes is as long as it is
pub taken-before : (p : ℕ → Bool) (xs before : List ℕ) → before ≡ before_first p xs → take (length before) xs ≡ before
taken-before p xs before is =
    let n = position_or_len p xs in
    elim (cases_lt n (length xs)) [
      | inl lt ↦ (let same : length before ≡ n = omega (arith, ap length is, length-take n xs) in ap (λ k. take k xs) same ∙ sym is)
      | inr ge ↦ (
          let same : length before ≡ length xs = omega (arith, ap length is, length-take n xs) in
          take_all (length before) xs (omega arith) ∙ sym (take_all n xs ge) ∙ sym is)
    ]

-- parts of a text without a blank
pub plain-before : (p : ℕ → Bool) (xs : List ℕ) → HasNoBlank xs → HasNoBlank (before_first p xs)
plain-before p xs none = All-take (λ c. is_blank c ≡ false) (position_or_len p xs) xs none

pub plain-after : (p : ℕ → Bool) (xs : List ℕ) → HasNoBlank xs → HasNoBlank (after_first p xs)
plain-after p xs none = All-drop (λ c. is_blank c ≡ false) (position_or_len p xs + 1) xs none

-- the name before the parenthesis at the end
pub plain-name : (rest name : List ℕ) → rest ≡ name ++ 41 ∷ [] → HasNoBlank rest → HasNoBlank name
plain-name rest name is none =
    subst HasNoBlank (ap (take (length name)) is ∙ take_at name (41 ∷ []) (length name) refl)
    (All-take (λ c. is_blank c ≡ false) (length name) rest none)

pub trimmed-before : (p : ℕ → Bool) (xs before : List ℕ) → HasNoBlank xs → before ≡ before_first p xs → trimmed before ≡ before
trimmed-before p xs before none is = trimmed-plain before (subst HasNoBlank (sym is) (plain-before p xs none))

pub trimmed-after : (p : ℕ → Bool) (xs after : List ℕ) → HasNoBlank xs → after ≡ after_first p xs → trimmed after ≡ after
trimmed-after p xs after none is = trimmed-plain after (subst HasNoBlank (sym is) (plain-after p xs none))

-- the marks of a text are marks of what stands before the first byte that passes
pub marked-before : (p : ℕ → Bool) (m : Marks) (xs before : List ℕ) → before ≡ before_first p xs → IsMarked m xs → IsMarked m before
marked-before p m xs before is marked = subst (IsMarked m) (sym is) (marked-take m (position_or_len p xs) xs marked)
