-- A bench and a log are in step in at most one way, so a session can keep this fact. No public clause cites this
-- module.
use Rattle.std.specs.Prelude.{◌≡◌, ◌≤◌, ◌+◌, ℕ, List, [], ◌∷◌, All, length, take}
use Rattle.std.specs.Coded.{Coded-set, coded_list, Unit-prop, ×_prop}
use Rattle.std.proofs.Props.{props}
use Rattle.rapid_text.specs.Recording.{Recording}
use Rattle.inverse_log.specs.contracts.entry.Entry.{the_row}
use Rattle.inverse_log.specs.declared.entry.Entry.{Entry}
use Rattle.script_language.specs.Scripts.{script_line_reading}
use Rattle.kept_log.specs.Device.{OthersMay}
use Rattle.kept_log.specs.Lines.{IsLine}
use Rattle.kept_log.specs.Log.{IsLeft, at_rest, head_of, lines_of}
use Rattle.kept_log.specs.declared.device.Device.{Ghosts}
use Rattle.kept_log.specs.declared.log.KeptLog.{KeptLog}
use Rattle.kept_session.specs.Sessions.{IsInStep, IsLogged, AreLogged, log_by, log_of}

OthersMay-prop : (gate : ℕ) (old new : List ℕ) → IsProp (OthersMay gate old new)
OthersMay-prop gate old new x y =
    let before_prop : IsProp (take gate new ≡ take gate old) = hlevel props in
    let no_shorter_prop : IsProp (gate ≤ length new) = hlevel props in
    λ i. record {
      before = before_prop x.before y.before i;
      no_shorter = no_shorter_prop x.no_shorter y.no_shorter i;
    }

IsLeft-prop : {D : Type 0} (disk : Ghosts D) (log : KeptLog D) → IsProp (IsLeft disk log)
IsLeft-prop disk log x y =
    let start_prop : IsProp (log.start ≤ length (disk.seen log.device)) = hlevel props in
    let are_lines_prop : IsProp (All IsLine (lines_of disk log)) = hlevel props in
    let file_prop : IsProp (disk.seen log.device ≡ at_rest (head_of disk log) (lines_of disk log)) = hlevel props in
    let end_prop : IsProp (log.end + 1 ≡ length (disk.seen log.device)) = hlevel props in
    let kept_prop : IsProp ((c : List ℕ) → disk.may_leave log.device c → OthersMay log.end (disk.seen log.device) c) = hlevel (props, OthersMay-prop) in
    λ i. record {
      start = start_prop x.start y.start i;
      are_lines = are_lines_prop x.are_lines y.are_lines i;
      file = file_prop x.file y.file i;
      end = end_prop x.end y.end i;
      kept = kept_prop x.kept y.kept i;
    }

AreLogged-prop : (T : Recording) (L : List Entry) (lines : List (List ℕ)) → IsProp (AreLogged T L lines)
AreLogged-prop T L [] = Unit-prop
AreLogged-prop T L (line ∷ lines) =
    let one_prop : IsProp (IsLogged T L line) = hlevel props in
    ×_prop one_prop (AreLogged-prop T (log_by T L (script_line_reading line)) lines)

pub IsInStep-prop : {D : Type 0} (disk : Ghosts D) (T : Recording) (log : KeptLog D) (L : List Entry) → IsProp (IsInStep disk T log L)
IsInStep-prop disk T log L x y =
    let left_prop : IsProp (IsLeft disk log) = IsLeft-prop disk log in
    let says_prop : IsProp (log_of T (lines_of disk log) ≡ L) = Coded-set (coded_list the_row.coded) (log_of T (lines_of disk log)) L in
    let logged_prop : IsProp (AreLogged T [] (lines_of disk log)) = AreLogged-prop T [] (lines_of disk log) in
    λ i. record {
      left = left_prop x.left y.left i;
      says = says_prop x.says y.says i;
      logged = logged_prop x.logged y.logged i;
    }
