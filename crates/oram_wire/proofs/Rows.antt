-- Rows that the definitions compute.
use Rattle.std.proofs.Common.{◌≡◌, ◌∷◌, [], ◌++◌, Some, false, true, refl, arith}
use Rattle.std.specs.List.{flat_map}
use Rattle.oram_wire.specs.declared.host_messages.HostAnswer.TheVariants as answer
use Rattle.oram_wire.specs.declared.host_messages.HostRequest.TheVariants as request
use Rattle.oram_wire.specs.declared.session_messages.SessionReply.TheVariants as reply
use Rattle.oram_wire.specs.declared.session_messages.SessionRequest.TheVariants as session
use Rattle.oram_wire.specs.FrameStream.{frame, length_at}
use Rattle.oram_wire.specs.HostMessages.{answer_body, fetch_body, put_body, request_body, shape_body, store_body}
use Rattle.oram_wire.specs.HostBodies.{is_request_length, names_answer, names_request}
use Rattle.oram_wire.specs.FrameIo.{GivesBrokenHead, GivesCutFrame, GivesEnd, GivesFrame, TakesPart}
use Rattle.oram_wire.specs.SessionMessages.{session_reply_body, session_request_body}
use Rattle.oram_wire.specs.SessionBodies.{is_session_request_length, names_session_reply, names_session_request}

fetch_row : request_body (request.Fetch 0 6) ≡ 1 ∷ 0 ∷ 0 ∷ 0 ∷ 0 ∷ 6 ∷ []
fetch_row = refl

store_row : store_body 0 1 (17 ∷ 18 ∷ 19 ∷ 20 ∷ []) ≡ 2 ∷ 0 ∷ 0 ∷ 0 ∷ 0 ∷ 1 ∷ 17 ∷ 18 ∷ 19 ∷ 20 ∷ []
store_row = refl

put_row : put_body 0 3 (170 ∷ 187 ∷ []) ≡ 3 ∷ 0 ∷ 0 ∷ 0 ∷ 0 ∷ 3 ∷ 170 ∷ 187 ∷ []
put_row = refl

shape_row : shape_body 0 1 2 ≡ 4 ∷ 0 ∷ 1 ∷ 0 ∷ 0 ∷ 0 ∷ 2 ∷ []
shape_row = refl

answer_rows : answer_body (answer.Refused 7) ++ answer_body answer.Done ++ answer_body (answer.Payload (17 ∷ 18 ∷ [])) ≡ 129 ∷ 7 ∷ 128 ∷ 128 ∷ 17 ∷ 18 ∷ []
answer_rows = refl

frame_row : frame (fetch_body 0 6) ≡ 0 ∷ 0 ∷ 0 ∷ 6 ∷ 1 ∷ 0 ∷ 0 ∷ 0 ∷ 0 ∷ 6 ∷ []
frame_row = refl

-- two frames, the second without a body
frames_row : flat_map frame (fetch_body 0 6 ∷ [] ∷ []) ≡ 0 ∷ 0 ∷ 0 ∷ 6 ∷ 1 ∷ 0 ∷ 0 ∷ 0 ∷ 0 ∷ 6 ∷ 0 ∷ 0 ∷ 0 ∷ 0 ∷ []
frames_row = refl

-- the least length that is too great
long_row : length_at (0 ∷ 16 ∷ 0 ∷ 1 ∷ []) ≡ 1048577
long_row = refl

not_a_request : names_request (9 ∷ []) ≡ false
not_a_request = refl

cut_short : is_request_length 1 5 ≡ false
cut_short = refl

not_an_answer : names_answer (1 ∷ []) ≡ false
not_an_answer = refl

read_row : session_request_body (session.Read 5) ≡ 17 ∷ 0 ∷ 0 ∷ 0 ∷ 5 ∷ []
read_row = refl

write_row : session_request_body (session.Write 5 (255 ∷ 254 ∷ [])) ≡ 18 ∷ 0 ∷ 0 ∷ 0 ∷ 5 ∷ 255 ∷ 254 ∷ []
write_row = refl

discard_row : session_request_body (session.Discard 5) ≡ 19 ∷ 0 ∷ 0 ∷ 0 ∷ 5 ∷ []
discard_row = refl

-- frames of replies: a write is done, an address is bad, a body is no request, a read gives two zeros
reply_rows : flat_map frame (session_reply_body reply.Done ∷ session_reply_body (reply.Refused 1) ∷ session_reply_body (reply.Refused 7) ∷ session_reply_body (reply.Data (0 ∷ 0 ∷ [])) ∷ []) ≡ 0 ∷ 0 ∷ 0 ∷ 1 ∷ 145 ∷ 0 ∷ 0 ∷ 0 ∷ 2 ∷ 146 ∷ 1 ∷ 0 ∷ 0 ∷ 0 ∷ 2 ∷ 146 ∷ 7 ∷ 0 ∷ 0 ∷ 0 ∷ 3 ∷ 144 ∷ 0 ∷ 0 ∷ []
reply_rows = refl

not_a_session_request : names_session_request (20 ∷ []) ≡ false
not_a_session_request = refl

read_with_a_byte_more : is_session_request_length 17 6 ≡ false
read_with_a_byte_more = refl

write_of_nothing : is_session_request_length 18 5 ≡ true
write_of_nothing = refl

write_cut_short : is_session_request_length 18 4 ≡ false
write_cut_short = refl

not_a_reply : names_session_reply (147 ∷ []) ≡ false
not_a_reply = refl

-- a frame is read, and the byte after it is left
given_row : GivesFrame (Some (0 ∷ 0 ∷ 0 ∷ 1 ∷ 145 ∷ 7 ∷ [])) (Some (7 ∷ [])) (145 ∷ [])
given_row = (omega arith, refl)

-- the length that is too great is read, and nothing after it
broken_row : GivesBrokenHead (Some (0 ∷ 16 ∷ 0 ∷ 1 ∷ 7 ∷ [])) (Some (7 ∷ []))
broken_row = (0 ∷ 16 ∷ 0 ∷ 1 ∷ [], refl, (omega arith, omega arith), refl)

-- an input ends inside a body, inside a length, and before a frame
cut_in_body : GivesCutFrame (Some (0 ∷ 0 ∷ 0 ∷ 2 ∷ 145 ∷ [])) (Some [])
cut_in_body = (0 ∷ 0 ∷ 0 ∷ 2 ∷ 145 ∷ [], omega arith, λ _. (omega arith, omega arith), refl, refl)

cut_in_head : GivesCutFrame (Some (0 ∷ 0 ∷ [])) (Some [])
cut_in_head = (0 ∷ 0 ∷ [], omega arith, λ four. absurd (omega (arith, four)), refl, refl)

end_row : GivesEnd (Some []) (Some [])
end_row = (refl, refl)

-- half of a length was written
taken_row : TakesPart (Some (9 ∷ [])) (Some (9 ∷ 0 ∷ 0 ∷ [])) (frame (145 ∷ []))
taken_row = (2, omega arith, refl)
