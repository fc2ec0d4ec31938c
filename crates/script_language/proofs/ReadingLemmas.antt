-- A script that is read line by line.
use Rattle.std.proofs.Common.{◌≡◌, ◌⊎◌, ℕ, ◌+◌, ◌≤◌, List, [], ◌∷◌, ◌++◌, length, All, Option, Some, None, Result, Ok, Err, refl, sym, ap, ◌∙◌, subst, arith, append-nil, append_assoc, length-append}
use Rattle.std.specs.Prelude.{false, IsOk, OnOk, is_err}
use Rattle.std.specs.List.{slice_split}
use Rattle.std.proofs.lemmas.List.Elements.{All-append, All-cons}
use Rattle.std.proofs.lemmas.List.Sums.{count_by-le-length}
use Rattle.std.proofs.lemmas.List.Splits.{length-slice_split}
use Rattle.rapid_text.specs.Reading.{is_line_feed}
use Rattle.inverse_log.specs.declared.call.Call.{Call}
use Rattle.script_language.specs.Scripts.{Asked, script_line_reading, asked_by, asked_behind, AreRead, IsFirstRefused, IsScript, then_read, batch_reading}
use Rattle.script_language.specs.declared.refusal.ScriptCause.{ScriptCause}
use Rattle.script_language.specs.declared.refusal.ScriptRefusal.{ScriptRefusal}

abbrev lines_of : List ℕ → List (List ℕ)
lines_of text = slice_split is_line_feed text

-- The lines before `lines` were read, and ask for these calls.
pub record IsUnderway (text : List ℕ) (lines : List (List ℕ)) (line : ℕ) (script : List Asked) : Type 0 where
  pub passed : List (List ℕ)
  pub split : lines_of text ≡ passed ++ lines
  pub count : line ≡ length passed
  pub read : AreRead passed
  pub asked : script ≡ asked_behind 0 passed

pub underway-start : (text : List ℕ) (lines : List (List ℕ)) (script : List Asked) → lines ≡ lines_of text → script ≡ [] → IsUnderway text lines 0 script
underway-start text lines script e none =
    record {
      passed = [];
      split = sym e;
      count = refl;
      read = λ k d lt. absurd (omega (arith, lt));
      asked = none;
    }

asked_behind-push : (n : ℕ) (lines : List (List ℕ)) (line : List ℕ) → asked_behind n (lines ++ line ∷ []) ≡ asked_behind n lines ++ asked_by (n + length lines + 1) (script_line_reading line)
asked_behind-push n [] line = append-nil (asked_by (n + 1) (script_line_reading line)) ∙ ap (λ k. asked_by k (script_line_reading line)) {x = n + 1} {y = n + 0 + 1} (omega arith)
asked_behind-push n (x ∷ lines) line =
    ap (λ more. asked_by (n + 1) (script_line_reading x) ++ more) (asked_behind-push (n + 1) lines line)
    ∙ sym (append_assoc (asked_by (n + 1) (script_line_reading x)) (asked_behind (n + 1) lines) (asked_by (n + 1 + length lines + 1) (script_line_reading line)))
    ∙ ap (λ k. (asked_by (n + 1) (script_line_reading x) ++ asked_behind (n + 1) lines) ++ asked_by k (script_line_reading line)) {x = n + 1 + length lines + 1} {y = n + length (x ∷ lines) + 1} (omega arith)

module _ (text : List ℕ) (lines left : List (List ℕ)) (raw : List ℕ) (line : ℕ) (script : List Asked) (h : IsUnderway text lines line script) (e : lines ≡ raw ∷ left) where
  -- its number is no greater than the text is long
  pub underway-count : line ≤ length text
  underway-count =
      omega (arith, h.count, ap length h.split, ap length e, length-append h.passed lines, length-slice_split is_line_feed text, count_by-le-length is_line_feed text)

  -- one line more was read
  pub underway-more : (reading : Option (ℕ × Call)) (more : List Asked) → script_line_reading raw ≡ Ok reading → more ≡ script ++ asked_by (line + 1) (Ok reading) → IsUnderway text left (line + 1) more
  underway-more reading more reads is =
      record {
        passed = h.passed ++ raw ∷ [];
        split = h.split ∙ ap (λ ls. h.passed ++ ls) e ∙ sym (append_assoc h.passed (raw ∷ []) left);
        count = omega (arith, h.count, length-append h.passed (raw ∷ []));
        read = All-append (λ l. IsOk (script_line_reading l)) h.passed (raw ∷ []) h.read (All-cons (λ l. IsOk (script_line_reading l)) raw [] (subst IsOk (sym reads) refl) (λ k d lt. absurd (omega (arith, lt))));
        asked =
            is
            ∙ ap (λ s. s ++ asked_by (line + 1) (Ok reading)) h.asked
            ∙ ap (λ n. asked_behind 0 h.passed ++ asked_by n (Ok reading)) {x = line + 1} {y = 0 + length h.passed + 1} (omega (arith, h.count))
            ∙ ap (λ r. asked_behind 0 h.passed ++ asked_by (0 + length h.passed + 1) r) (sym reads)
            ∙ sym (asked_behind-push 0 h.passed raw);
      }

  -- the line is the first that is refused
  pub underway-refused : (why : ScriptCause) → script_line_reading raw ≡ Err why → IsFirstRefused (lines_of text) (record { line = line + 1; why = why })
  underway-refused why reads =
      record {
        before = h.passed;
        line = raw;
        behind = left;
        split = h.split ∙ ap (λ ls. h.passed ++ ls) e;
        none_before = h.read;
        refused = reads;
        place = ap (λ n. n + 1) h.count;
      }

-- all lines were read
pub underway-end : (text : List ℕ) (lines : List (List ℕ)) (line : ℕ) (script : List Asked) → IsUnderway text lines line script → lines ≡ [] → IsScript text (Ok script)
underway-end text lines line script h e =
    let all : lines_of text ≡ h.passed = h.split ∙ ap (λ ls. h.passed ++ ls) e ∙ append-nil h.passed in (
      subst AreRead (sym all) h.read,
      h.asked ∙ ap (asked_behind 0) (sym all),
    )

-- what holds on success holds if there is no error
pub is_ok-held : {A E P : Type 0} (r : Result A E) → is_err r ≡ false → OnOk r P → P
is_ok-held (Ok value) done holds = holds
is_ok-held (Err why) done holds = absurd cc

-- a line that asks for a batch
pub batch_reads : (reading : Result (Option (ℕ × Call)) ScriptCause) (client : ℕ) (words : List (List ℕ)) (call : Call) → reading ≡ then_read (batch_reading words) (λ asked. Ok (Some (client, asked))) → batch_reading words ≡ Ok call → reading ≡ Ok (Some (client, call))
batch_reads reading client words call asks is = asks ∙ ap (λ r. then_read r (λ asked. Ok (Some (client, asked)))) is
