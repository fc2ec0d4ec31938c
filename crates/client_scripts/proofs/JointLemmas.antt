-- The place of the first divider, line by line.
use Rattle.std.proofs.Common.{◌≡◌, ℕ, suc, ◌+◌, ◌≤◌, List, [], ◌∷◌, ◌++◌, length, take, drop, position, Some, None, flat_map, refl, sym, ap, ◌∙◌, arith, true, false, append_assoc, append-nil, length-append}
use Rattle.std.specs.List.{AllByRecursion, join_with_byte}
use Rattle.std.proofs.lemmas.List.Splits.{join_with_byte-slice_split}
use Rattle.client_scripts.specs.Joint.{is_divider, ended, lines_of, trace_by, script_by, trace_part, script_part}
use Rattle.client_scripts.proofs.PositionLemmas.{position-at, position-nowhere, none-push}

-- Some lines of the text were passed, none of them a divider; `at` bytes are those lines with their ends.
pub record IsPassed (text : List ℕ) (lines : List (List ℕ)) (at : ℕ) : Type 0 where
  pub passed : List (List ℕ)
  pub split : lines_of text ≡ passed ++ lines
  pub none : AllByRecursion (λ line. is_divider line ≡ false) passed
  pub len : at ≡ length (flat_map ended passed)

-- lines joined again, where one stands behind the others
join-front : (front : List (List ℕ)) (x : List ℕ) (rest : List (List ℕ)) → join_with_byte 10 (front ++ x ∷ rest) ≡ flat_map ended front ++ join_with_byte 10 (x ∷ rest)
join-front [] x rest = refl
join-front (y ∷ []) x rest =
    sym (append_assoc y (10 ∷ []) (join_with_byte 10 (x ∷ rest)))
    ∙ ap (λ s. s ++ join_with_byte 10 (x ∷ rest)) (sym (append-nil (ended y)))
join-front (y ∷ z ∷ front) x rest =
    let joined = join_with_byte 10 (x ∷ rest) in
    let more = flat_map ended (z ∷ front) in
    ap (λ s. y ++ (10 ∷ s)) (join-front (z ∷ front) x rest)
    ∙ sym (append_assoc y (10 ∷ []) (more ++ joined))
    ∙ sym (append_assoc (ended y) more joined)

-- the text, cut behind the lines that were passed
pub text-passed : (text : List ℕ) (lines left : List (List ℕ)) (line : List ℕ) (at : ℕ) (h : IsPassed text lines at) → lines ≡ line ∷ left → text ≡ flat_map ended h.passed ++ join_with_byte 10 (line ∷ left)
text-passed text lines left line at h e =
    sym (join_with_byte-slice_split 10 text)
    ∙ ap (join_with_byte 10) h.split
    ∙ ap (λ ls. join_with_byte 10 (h.passed ++ ls)) e
    ∙ join-front h.passed line left

-- the line and what stands before it lie in the text
join-first : (line : List ℕ) (left : List (List ℕ)) → length line ≤ length (join_with_byte 10 (line ∷ left))
join-first line [] = omega arith
join-first line (x ∷ left) = omega (arith, length-append line (10 ∷ join_with_byte 10 (x ∷ left)))

pub passed-within : (text : List ℕ) (lines left : List (List ℕ)) (line : List ℕ) (at : ℕ) → IsPassed text lines at → lines ≡ line ∷ left → at + length line ≤ length text
passed-within text lines left line at h e =
    omega (arith, h.len, ap length (text-passed text lines left line at h e), length-append (flat_map ended h.passed) (join_with_byte 10 (line ∷ left)), join-first line left)

take-front : {X : Type 0} (xs ys : List X) → take (length xs) (xs ++ ys) ≡ xs
take-front [] ys = refl
take-front (x ∷ xs) ys = ap (λ s. x ∷ s) (take-front xs ys)

drop-behind : {X : Type 0} (xs : List X) (y : X) (ys : List X) → drop (suc (length xs)) (xs ++ y ∷ ys) ≡ ys
drop-behind [] y ys = refl
drop-behind (x ∷ xs) y ys = drop-behind xs y ys

-- at the start nothing was passed
pub passed-start : (text : List ℕ) (lines : List (List ℕ)) → lines ≡ lines_of text → IsPassed text lines 0
passed-start text lines e = record { passed = []; split = sym e; none = tt; len = refl }

ended-push : (lines : List (List ℕ)) (line : List ℕ) → flat_map ended (lines ++ line ∷ []) ≡ flat_map ended lines ++ ended line
ended-push [] line = append-nil (ended line)
ended-push (x ∷ lines) line = ap (λ s. ended x ++ s) (ended-push lines line) ∙ sym (append_assoc (ended x) (flat_map ended lines) (ended line))

-- one line more is passed
pub passed-more : (text : List ℕ) (lines left : List (List ℕ)) (line : List ℕ) (at : ℕ) → IsPassed text lines at → lines ≡ line ∷ left → is_divider line ≡ false → IsPassed text left (at + (length line + 1))
passed-more text lines left line at h e no_divider =
    record {
      passed = h.passed ++ line ∷ [];
      split = h.split ∙ ap (λ ls. h.passed ++ ls) e ∙ sym (append_assoc h.passed (line ∷ []) left);
      none = none-push is_divider h.passed line h.none no_divider;
      len = omega (arith, h.len, ap length (ended-push h.passed line), length-append (flat_map ended h.passed) (ended line), length-append line (10 ∷ []));
    }

module _ (text : List ℕ) (lines left : List (List ℕ)) (line : List ℕ) (at : ℕ) (h : IsPassed text lines at) (e : lines ≡ line ∷ left) (divides : is_divider line ≡ true) where
  all : lines_of text ≡ h.passed ++ line ∷ left
  all = h.split ∙ ap (λ ls. h.passed ++ ls) e

  place : position is_divider (lines_of text) ≡ Some (length h.passed)
  place = ap (position is_divider) all ∙ position-at is_divider h.passed line left h.none divides

  -- at the first divider, the trace is what was passed
  pub trace-here : take at text ≡ trace_part text
  unfolding trace_part
  trace-here =
      ap (λ n. take n text) h.len
      ∙ ap (take (length (flat_map ended h.passed))) (text-passed text lines left line at h e)
      ∙ take-front (flat_map ended h.passed) (join_with_byte 10 (line ∷ left))
      ∙ ap (flat_map ended) (sym (take-front h.passed (line ∷ left)))
      ∙ ap (λ ls. flat_map ended (take (length h.passed) ls)) (sym all)
      ∙ sym (ap (trace_by text) place)

  -- and the script is what is left
  pub script-here : join_with_byte 10 left ≡ script_part text
  unfolding script_part
  script-here =
      let next : suc (length h.passed) ≡ length h.passed + 1 = omega arith in
      ap (join_with_byte 10) (sym (drop-behind h.passed line left))
      ∙ ap (λ ls. join_with_byte 10 (drop (suc (length h.passed)) ls)) (sym all)
      ∙ ap (λ n. join_with_byte 10 (drop n (lines_of text))) next
      ∙ sym (ap (script_by text) place)

module _ (text : List ℕ) (lines : List (List ℕ)) (at : ℕ) (h : IsPassed text lines at) (e : lines ≡ []) where
  nowhere : position is_divider (lines_of text) ≡ None
  nowhere =
      ap (position is_divider) (h.split ∙ ap (λ ls. h.passed ++ ls) e ∙ append-nil h.passed) ∙ position-nowhere is_divider h.passed h.none

  -- without a divider the whole text is the trace
  pub trace-whole : text ≡ trace_part text
  unfolding trace_part
  trace-whole = sym (ap (trace_by text) nowhere)

  -- and the script is empty
  pub script-none : [] ≡ script_part text
  unfolding script_part
  script-none = sym (ap (script_by text) nowhere)
