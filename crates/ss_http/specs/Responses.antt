-- The bytes of a response (RFC 9112), with the fields of the SyncStorage API 1.5.
use Rattle.std.specs.Prelude.{ℕ, List, [], ◌∷◌, ◌++◌, length, Bool, false, ◌==◌, if◌then◌else◌, Some, None, option_map}
use Rattle.std.specs.Prelude.{codes, decimal}
use Rattle.ss_text.specs.Time.{stamp_text}
use Rattle.ss_http.specs.declared.response.ResponseHead.{ResponseHead}
use Rattle.ss_http.specs.Fields.{Line, lines, field_if}

-- the reason of a status
abbrev pub reason_of : ℕ → List ℕ
reason_of status =
    if status == 200 then codes "OK" else
    (if status == 202 then codes "Accepted" else
    (if status == 304 then codes "Not Modified" else
    (if status == 400 then codes "Bad Request" else
    (if status == 401 then codes "Unauthorized" else
    (if status == 403 then codes "Forbidden" else
    (if status == 404 then codes "Not Found" else
    (if status == 405 then codes "Method Not Allowed" else
    (if status == 411 then codes "Length Required" else
    (if status == 412 then codes "Precondition Failed" else
    (if status == 413 then codes "Content Too Large" else
    (if status == 415 then codes "Unsupported Media Type" else
    (if status == 503 then codes "Service Unavailable" else
    (if status == 507 then codes "Insufficient Storage" else [])))))))))))))

-- the type of a body: an object or a list a line, or one JSON text
abbrev pub type_of : Bool → List ℕ
type_of newlines = if newlines then codes "application/newlines" else codes "application/json"

-- the fields on a body of this size; a 304 has neither type nor length
abbrev pub body_fields : ResponseHead → ℕ → List Line
body_fields head size =
    if head.status == 304 then []
    else ((codes "Content-Type", type_of head.newlines) ∷ (codes "Content-Length", decimal size) ∷ [])

-- the fields of a response whose body has this size, in their order
abbrev pub fields : ResponseHead → ℕ → List Line
fields head size =
    field_if (codes "X-Weave-Timestamp") (Some (stamp_text head.moment))
    ++ (field_if (codes "X-Last-Modified") (option_map stamp_text head.modified)
    ++ (field_if (codes "X-Weave-Records") (option_map decimal head.count)
    ++ (field_if (codes "X-Weave-Next-Offset") (option_map decimal head.next)
    ++ (field_if (codes "Allow") head.allow
    ++ (body_fields head size
    ++ field_if (codes "Connection") (if head.last then Some (codes "close") else None))))))

-- the first line
abbrev pub status_line : ℕ → List ℕ
status_line status = codes "HTTP/1.1 " ++ decimal status ++ codes " " ++ reason_of status ++ codes "\r\n"

-- the lines before the body, the empty one among them
unfoldable pub head_text : ResponseHead → ℕ → List ℕ
head_text head size = status_line head.status ++ lines (fields head size) ++ codes "\r\n"

-- a response: its head and its body
abbrev pub response : ResponseHead → List ℕ → List ℕ
response head body = head_text head (length body) ++ body

-- the head of the response that says that no memory was found
abbrev pub memory_head : ℕ → Bool → ResponseHead
memory_head moment last =
    record { status = 507; moment = moment; modified = None; count = None; next = None; allow = None; newlines = false; last = last }

-- the response that says that no memory was found
abbrev pub memory_response : ℕ → Bool → List ℕ
memory_response moment last = response (memory_head moment last) (codes "\"memory\"")

-- the field that ends the connection, if it is to end
abbrev pub close_text : Bool → List ℕ
close_text last = if last then codes "Connection: close\r\n" else []
