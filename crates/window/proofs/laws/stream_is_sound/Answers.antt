use Rattle.window.proofs.StreamLemmas.{sound_stream_law}
use Rattle.window.proofs.laws.stream_is_sound.Goals as goal

pub returns : goal.returns
returns c = sound_stream_law
