use Rattle.pmg_frame.proofs.FrameLaws.{frame_found, frame_only, one_spelling}
use Rattle.pmg_frame.proofs.PieceTests.{are_pieces}
use Rattle.pmg_frame.proofs.HeaderTests.{are_headers, are_fitting}
use Rattle.pmg_frame.proofs.RefreshTests.{are_replies}
use Rattle.pmg_frame.proofs.laws.frame_rules.Goals as goal

pub returns : goal.returns
returns c = record { found = frame_found; only = frame_only; one_spelling = one_spelling; pieces = are_pieces; headers = are_headers; replies = are_replies; fitting = are_fitting }
