-- How the bytes of a name are stored: the bytes, and then zeros. No public clause cites this module.
use Rattle.std.specs.Prelude.{◌≡◌, ℕ, ◌-◌, ◌≤◌, true, List, ◌++◌, length, take, drop, replicate}
use Rattle.std.proofs.Common.{sym, ap, ◌∙◌, arith, take-append-drop, length-take-le}
use Rattle.moves.specs.declared.name.Name.TheInside.{Inside}
use Rattle.moves.specs.Names.{is_name}

abbrev pub bytes_of : Inside → List ℕ
bytes_of n = take n.len n.padded

pub record IsPadded (n : Inside) : Type 0 where
  pub whole : length n.padded ≡ 64
  pub fits : n.len ≤ 64
  pub zeros : drop n.len n.padded ≡ replicate (64 - n.len) 0
  pub named : is_name (bytes_of n) ≡ true

-- these bytes as they are stored
abbrev pub padded_with : List ℕ → Inside
padded_with bs = record { len = length bs; padded = bs ++ replicate (64 - length bs) 0 }

pub padded_with-bytes_of : (n : Inside) → IsPadded n → padded_with (bytes_of n) ≡ n
padded_with-bytes_of n is =
    let long : length (take n.len n.padded) ≡ n.len = length-take-le n.len n.padded (omega (arith, is.whole, is.fits)) in
    let whole : take n.len n.padded ++ replicate (64 - length (take n.len n.padded)) 0 ≡ n.padded =
    ap (λ k. take n.len n.padded ++ replicate (64 - k) 0) long ∙ ap (λ zs. take n.len n.padded ++ zs) (sym is.zeros) ∙ take-append-drop n.len n.padded in
    λ i. record { len = long i; padded = whole i }
