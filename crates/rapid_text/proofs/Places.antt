-- Locations in one buffer: what was placed before stays as it was.
use Rattle.std.proofs.Common.{◌≡◌, ℕ, ◌≤◌, ◌-◌, List, [], ◌∷◌, ◌++◌, map, length, take, drop, refl, sym, ap, ◌∙◌, arith}
use Rattle.std.specs.Prelude.{All}
use Rattle.std.proofs.lemmas.List.{drop-append-le, take-append-le, drop_at, take_all, map_push, length-drop, length-append}
use Rattle.std.proofs.lemmas.List.Elements.{All-head, All-tail}
use Rattle.rapid_text.specs.Layout.{IsPart, part_at}
use Rattle.rapid_text.specs.declared.raw_trace.Span.{Span}

-- a part of the bytes is the same part of more bytes
part_at-append : (bytes more : List ℕ) (s : Span) → IsPart bytes s → part_at (bytes ++ more) s ≡ part_at bytes s
part_at-append bytes more s h =
    let in_front : drop s.start (bytes ++ more) ≡ drop s.start bytes ++ more = drop-append-le s.start bytes more (omega (arith, h.0, h.1)) in
    let fits : s.end - s.start ≤ length (drop s.start bytes) = omega (arith, h.0, h.1, length-drop s.start bytes) in
    ap (take (s.end - s.start)) in_front ∙ take-append-le (s.end - s.start) (drop s.start bytes) more fits

parts-append : (bytes more : List ℕ) (spans : List Span) → All (IsPart bytes) spans → map (part_at (bytes ++ more)) spans ≡ map (part_at bytes) spans
parts-append bytes more [] h = refl
parts-append bytes more (s ∷ spans) h =
    let first = part_at-append bytes more s (All-head (IsPart bytes) s spans h) in
    let rest = parts-append bytes more spans (All-tail (IsPart bytes) s spans h) in
    ap (λ p. p ∷ map (part_at (bytes ++ more)) spans) first ∙ ap (λ ps. part_at bytes s ∷ ps) rest

-- the parts with one more at the end
pub parts_placed : (bytes more : List ℕ) (spans : List Span) (s : Span) → All (IsPart bytes) spans → s.start ≡ length bytes → s.end ≡ length (bytes ++ more) → map (part_at (bytes ++ more)) (spans ++ s ∷ []) ≡ map (part_at bytes) spans ++ more ∷ []
parts_placed bytes more spans s h starts ends =
    let behind : drop s.start (bytes ++ more) ≡ more = drop_at bytes more s.start (sym starts) in
    let whole : take (s.end - s.start) more ≡ more = take_all (s.end - s.start) more (omega (arith, starts, ends, length-append bytes more)) in
    let last : part_at (bytes ++ more) s ≡ more = ap (take (s.end - s.start)) behind ∙ whole in
    map_push (part_at (bytes ++ more)) spans s
    ∙ ap (λ ps. ps ++ part_at (bytes ++ more) s ∷ []) (parts-append bytes more spans h)
    ∙ ap (λ p. map (part_at bytes) spans ++ p ∷ []) last
