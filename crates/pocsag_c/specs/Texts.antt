-- What `pocsag_text_of_status` and `pocsag_text_of_version` promise.
use Rattle.std.specs.Prelude.{ℕ, ◌==◌, if◌then◌else◌, List, codes}

-- The texts of transmissions, captures and pagers.
abbrev pub sent_text : ℕ → List ℕ
sent_text status =
    if status == 48 then codes "the preamble is too short"
    else if status == 49 then codes "no synchronisation codeword"
    else if status == 50 then codes "not a codeword"
    else if status == 51 then codes "a message without an address"
    else if status == 52 then codes "the transmission is cut short"
    else if status == 53 then codes "the transmission has no batch"
    else if status == 56 then codes "the capture is too large"
    else if status == 57 then codes "there are no such batches"
    else if status == 58 then codes "a reading or the form of a picture must be 0, 1 or 2"
    else if status == 60 then codes "the samples a second must be from the rate to 192000"
    else if status == 61 then codes "the preamble must have 576 bits or more, a multiple of 8"
    else if status == 62 then codes "the sound is too long for a WAV file"
    else if status == 64 then codes "bad address"
    else if status == 65 then codes "reserved address"
    else codes "unknown status"

-- The texts of page files, certificates and quotes; or else those above.
abbrev pub file_text : ℕ → List ℕ
file_text status =
    if status == 17 then codes "the file is too large"
    else if status == 18 then codes "the header must be address,kind,message"
    else if status == 19 then codes "three fields are wanted"
    else if status == 20 then codes "bad address"
    else if status == 21 then codes "reserved address"
    else if status == 22 then codes "unknown kind"
    else if status == 23 then codes "a tone page has no message"
    else if status == 24 then codes "the message is empty"
    else if status == 25 then codes "bad character"
    else if status == 26 then codes "the message is too long"
    else if status == 27 then codes "the address is already there"
    else if status == 28 then codes "too many pages"
    else if status == 29 then codes "bad payload"
    else if status == 30 then codes "there are no pages"
    else if status == 32 then codes "not a certificate"
    else if status == 33 then codes "unknown certificate version"
    else if status == 34 then codes "the certificate is cut short"
    else if status == 35 then codes "bytes after the certificate"
    else if status == 36 then codes "the certificate is malformed"
    else if status == 37 then codes "the certificate is malformed"
    else if status == 38 then codes "the certificate is too deep"
    else if status == 39 then codes "the certificate has too many nodes"
    else if status == 41 then codes "the quote is not closed"
    else if status == 42 then codes "the quote stands inside a field that begins without one"
    else if status == 43 then codes "text follows the closing quote"
    else sent_text status

-- What a status says, in the words of the program, where its place is not reported: the texts of what was done, asked for or
-- had no room; or else those of faults.
abbrev pub status_text : ℕ → List ℕ
status_text status =
    if status == 0 then codes "done"
    else if status == 1 then codes "not shown"
    else if status == 2 then codes "the end must be 0, 1 or 2"
    else if status == 3 then codes "out of memory"
    else if status == 4 then codes "the rate must be 512, 1200 or 2400"
    else if status == 5 then codes "the limit must be 1 to 1000000"
    else if status == 6 then codes "search limit reached"
    else if status == 7 then codes "the buffer of the transmission is too small"
    else if status == 8 then codes "the buffer of the certificate is too small"
    else if status == 9 then codes "the buffer of the listing is too small"
    else if status == 10 then codes "the buffer of the text is too small"
    else if status == 11 then codes "the form must be 0 or 1"
    else if status == 12 then codes "page 1 needs more batches"
    else if status == 13 then codes "the buffer of the pages that are left is too small"
    else if status == 14 then codes "the buffer of the certificate of one page more is too small"
    else file_text status

-- The version of the package.
abbrev pub release_text : List ℕ
release_text = codes "1.2.1"
