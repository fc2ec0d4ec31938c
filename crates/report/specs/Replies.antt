-- The text of a reply to a call: one line.
use Rattle.std.specs.Prelude.{ℕ, List, ◌++◌, codes, decimal}
use Rattle.inverse_log.specs.declared.reply.Reply.{Reply}
use Rattle.inverse_log.specs.declared.reply.Reply.TheVariants.{Done, Undone, Proposed, Shown, Listing, Shows}
use Rattle.report.specs.Pieces.{spaced, spaced_names, spaced_pairs}

abbrev pub reply_text : Reply → List ℕ
reply_text (Done number) = decimal number ++ codes ": done\n"
reply_text (Undone number entry) = decimal number ++ codes ": undone " ++ decimal entry ++ codes "\n"
reply_text (Proposed number proposal) = decimal number ++ codes ": proposed " ++ decimal proposal ++ codes "\n"
reply_text (Shown events) = codes "shown" ++ spaced events ++ codes "\n"
reply_text (Listing names) = codes "names" ++ spaced_names names ++ codes "\n"
reply_text (Shows pairs) = codes "pairs" ++ spaced_pairs pairs ++ codes "\n"
