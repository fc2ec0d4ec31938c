use Rattle.serde_json.specs.View.{view}
use Rattle.race_parts.specs.Pairs.{pair_shown}
use Rattle.triage_report.specs.sarif.Merged.{origin_words, pair_words, row_words, tally_words, window_words}
use Rattle.triage_report.proofs.sarif.LogLemmas.{five_pieces}
use Rattle.triage_report.proofs.sarif.merged.append_words.Goals as goal

pub returns : goal.returns
returns c =
    let p = pair_shown c.args.pair in
    let d = view c.args.row.now in
    five_pieces c.args.out.now.items c.append_pair.new.out.items c.append_reason.new.out.items c.append_tally.new.out.items c.append_origin.new.out.items c.append_window.new.out.items
    (pair_words p.rank d) (row_words p.rank d) (tally_words c.args.parts p) (origin_words p d) (window_words p.part)
    c.in_ok-append_pair.ensures c.in_ok-append_reason.ensures c.in_ok-append_tally.ensures c.in_ok-append_origin.ensures c.in_ok-append_window.ensures
