-- What stands in the lists that a query and a request are, as they are written, for private clauses.
use Rattle.serde_json.specs.Data.{Data, boolean, string}
use Rattle.ss_lines.specs.Cells.{data_of}
use Rattle.ss_log_lines.specs.declared.pieces.Piece.{Piece}
use Rattle.ss_log_lines.specs.declared.pieces.Piece.TheVariants.{Text, Ids, Cond, Mode, Query, Fields, Parts, Failed}
use Rattle.ss_log_lines.specs.declared.pieces.QueryPiece.{QueryPiece}
use Rattle.ss_log_lines.specs.declared.pieces.QueryPiece.TheVariants as of_query
use Rattle.ss_log_lines.specs.declared.writing.CallPiece.{CallPiece}
use Rattle.ss_log_lines.specs.declared.writing.CallPiece.TheVariants as of_call
use Rattle.ss_log_lines.specs.Requests.{cond_data, failure_data, fields_data, data_of_list, mode_data, part_data}
use Rattle.ss_log_lines.specs.Requests.{query_data, request_data}

abbrev pub query_piece_data : QueryPiece → Data
query_piece_data (of_query.Cell c) = data_of c
query_piece_data (of_query.Flag b) = boolean b
query_piece_data (of_query.Ids ids) = data_of_list string ids.now

abbrev pub piece_data : Piece → Data
piece_data (Text text) = string text.now
piece_data (Ids ids) = data_of_list string ids.now
piece_data (Cond cond) = cond_data cond
piece_data (Mode mode) = mode_data mode
piece_data (Query query) = query_data query.now
piece_data (Fields fields) = fields_data fields.now
piece_data (Parts parts) = data_of_list part_data parts.now
piece_data (Failed failed) = data_of_list failure_data failed.now

abbrev pub call_piece_data : CallPiece → Data
call_piece_data (of_call.Cell c) = data_of c
call_piece_data (of_call.Request request) = request_data request.now
