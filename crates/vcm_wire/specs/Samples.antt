-- Worked frames, messages and requests, computed.
use Rattle.std.specs.Prelude.{◌≡◌, refl, [], ◌∷◌, ◌++◌, codes, Some, None}
use Rattle.std.specs.Fmt.{digits}
use Rattle.json.specs.Json.{Json, null, string, object, member, no_members}
use Rattle.json.specs.Print.{print, print_from, escape_byte}
use Rattle.json.specs.Token.{end_object}
use Rattle.vcm_wire.specs.Frames.{head, frame}
use Rattle.vcm_wire.specs.Messages.{front}
use Rattle.vcm_wire.specs.Requests.{argument}

-- the head of a message of 119 bytes
pub a_head : head (codes "119") ≡ codes "Content-Length: 119\r\n\r\n"
a_head = refl

-- the frame of an object without members
pub a_frame : frame (codes "{}") ≡ codes "Content-Length: 2\r\n\r\n{}"
unfolding digits
a_frame = refl

-- an event that is ended right behind its front
pub a_message : print (front 7 (codes "event") ++ end_object ∷ []) ≡ codes "{\"seq\":7,\"type\":\"event\"}"
unfolding digits print_from escape_byte
a_message = refl

-- {"arguments":{"path":"a","line":null}}
abbrev asked : Json
asked = object (member (codes "arguments") (object (member (codes "path") (string (codes "a")) (member (codes "line") null no_members))) no_members)

-- its argument `path`
pub an_argument : argument asked (codes "path") ≡ Some (string (codes "a"))
an_argument = refl

-- its argument `line`, which is null
pub a_null_argument : argument asked (codes "line") ≡ None
a_null_argument = refl
