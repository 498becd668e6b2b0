mod Try
